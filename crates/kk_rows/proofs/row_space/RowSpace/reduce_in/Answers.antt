use Rattle.std.proofs.Common.{ℕ, length, fold, ap, ◌∙◌, arith, ◌≡◌, true, ◌<◌, ◌^◌, ◌-◌, drop, sym, subst, bit_xor, ◌≤◌}
use Rattle.std.specs.Prelude.{All}
use Rattle.std.proofs.Math.Pow.{pow_mono}
use Rattle.kk_rows.specs.Rows.{numbers}
use Rattle.kk_rows.specs.Span.{in_span}
use Rattle.kk_rows.specs.Space.{Space, IsRowSpace}
use Rattle.kk_rows.specs.declared.row_space.RowSpace.TheInside.{Inside}
use Rattle.std.specs.Int.Bits.{bit_and}
use Rattle.kk_rows.proofs.Leads.{clear_by_leads, fold_clear, fits_word}
use Rattle.kk_rows.specs.Echelon.{IsClear, cleared}
use Rattle.kk_rows.proofs.RowLists.{mid_to_end, reduced_difference, reduced_clear, reduced_zero, reduced_below}
use Rattle.kk_rows.proofs.row_space.RowSpace.reduce_in.Goals as goal

-- where v has none of the leading bits, the rows leave it as it is
untouched : (s : Inside) → IsRowSpace s.width s.rank s.leads (numbers (drop (128 - s.rank) s.rows)) → (v : ℕ) → bit_and v s.leads ≡ 0
    → v ≡ fold cleared v (numbers (drop (128 - s.rank) s.rows))
untouched s h v none =
    let rows = numbers (drop (128 - s.rank) s.rows) in
    sym (fold_clear rows v h.reduced.nonzero (clear_by_leads s.leads v rows h.led none))

pub returns-then-v-self-eq0-clause-difference : goal.returns-then-v-self-eq0-clause-difference
returns-then-v-self-eq0-clause-difference g c =
    let v = c.args.v.0 in
    subst (λ (s : Space). in_span s.rows (bit_xor v v) ≡ true) c.self.view_is
    (reduced_difference (numbers (drop (128 - c.self.inside.rank) c.self.inside.rows)) v v (untouched c.self.inside c.self.invariant v c.if-v-self-eq0.true))

pub returns-then-v-self-eq0-clause-clear : goal.returns-then-v-self-eq0-clause-clear
returns-then-v-self-eq0-clause-clear g c =
    let v = c.args.v.0 in
    subst (λ (s : Space). IsClear s.rows v) c.self.view_is
    (reduced_clear (numbers (drop (128 - c.self.inside.rank) c.self.inside.rows)) v v c.self.invariant.reduced (untouched c.self.inside c.self.invariant v c.if-v-self-eq0.true))

pub returns-then-v-self-eq0-clause-zero : goal.returns-then-v-self-eq0-clause-zero
returns-then-v-self-eq0-clause-zero g c =
    let v = c.args.v.0 in
    subst (λ (s : Space). (v ≡ 0 → in_span s.rows v ≡ true) × (in_span s.rows v ≡ true → v ≡ 0)) c.self.view_is
    (reduced_zero (numbers (drop (128 - c.self.inside.rank) c.self.inside.rows)) v v c.self.invariant.reduced (untouched c.self.inside c.self.invariant v c.if-v-self-eq0.true))

pub returns-clause-difference : goal.returns-clause-difference
returns-clause-difference g c =
    let len : length c.self.inside.rows ≡ 128 = omega arith in
    let left : c.remainder.result.0 ≡ fold cleared c.args.v.0 (numbers (drop (128 - c.self.inside.rank) c.self.inside.rows)) =
    c.remainder.ensures ∙ ap (λ l. fold cleared c.args.v.0 (numbers l)) (mid_to_end c.self.inside.rows 128 (128 - c.self.inside.rank) len) in
    subst (λ (s : Space). in_span s.rows (bit_xor c.args.v.0 c.remainder.result.0) ≡ true) c.self.view_is
    (reduced_difference (numbers (drop (128 - c.self.inside.rank) c.self.inside.rows)) c.args.v.0 c.remainder.result.0 left)

pub returns-clause-clear : goal.returns-clause-clear
returns-clause-clear g c =
    let len : length c.self.inside.rows ≡ 128 = omega arith in
    let left : c.remainder.result.0 ≡ fold cleared c.args.v.0 (numbers (drop (128 - c.self.inside.rank) c.self.inside.rows)) =
    c.remainder.ensures ∙ ap (λ l. fold cleared c.args.v.0 (numbers l)) (mid_to_end c.self.inside.rows 128 (128 - c.self.inside.rank) len) in
    subst (λ (s : Space). IsClear s.rows c.remainder.result.0) c.self.view_is
    (reduced_clear (numbers (drop (128 - c.self.inside.rank) c.self.inside.rows)) c.args.v.0 c.remainder.result.0 c.self.invariant.reduced left)

pub returns-clause-zero : goal.returns-clause-zero
returns-clause-zero g c =
    let len : length c.self.inside.rows ≡ 128 = omega arith in
    let left : c.remainder.result.0 ≡ fold cleared c.args.v.0 (numbers (drop (128 - c.self.inside.rank) c.self.inside.rows)) =
    c.remainder.ensures ∙ ap (λ l. fold cleared c.args.v.0 (numbers l)) (mid_to_end c.self.inside.rows 128 (128 - c.self.inside.rank) len) in
    subst (λ (s : Space). (c.remainder.result.0 ≡ 0 → in_span s.rows c.args.v.0 ≡ true) × (in_span s.rows c.args.v.0 ≡ true → c.remainder.result.0 ≡ 0)) c.self.view_is
    (reduced_zero (numbers (drop (128 - c.self.inside.rank) c.self.inside.rows)) c.args.v.0 c.remainder.result.0 c.self.invariant.reduced left)

pub returns-clause-below : goal.returns-clause-below
returns-clause-below g c =
    let len : length c.self.inside.rows ≡ 128 = omega arith in
    let left : c.remainder.result.0 ≡ fold cleared c.args.v.0 (numbers (drop (128 - c.self.inside.rank) c.self.inside.rows)) =
    c.remainder.ensures ∙ ap (λ l. fold cleared c.args.v.0 (numbers l)) (mid_to_end c.self.inside.rows 128 (128 - c.self.inside.rank) len) in
    let fits = subst (λ (s : Space). c.args.v.0 < 2 ^ s.width) (sym c.self.view_is) c.requires.v_fits in
    subst (λ (s : Space). c.remainder.result.0 < 2 ^ s.width) c.self.view_is
    (reduced_below c.self.inside.width (numbers (drop (128 - c.self.inside.rank) c.self.inside.rows)) c.args.v.0 c.remainder.result.0 c.self.invariant.below fits left)

-- the rows of the space fit its words
rows_fit : (bits : ℕ) (inside : Inside) (value : Space) → record { width = inside.width; rows = numbers (drop (128 - inside.rank) inside.rows) } ≡ value
    → IsRowSpace inside.width inside.rank inside.leads (numbers (drop (128 - inside.rank) inside.rows)) → value.width ≤ bits
    → All (λ row. row < 2 ^ bits) (numbers (drop (128 - inside.rank) inside.rows))
rows_fit bits inside value is h wide =
    fits_word inside.width bits (numbers (drop (128 - inside.rank) inside.rows)) (subst (λ n. n ≤ bits) (ap (λ (s : Space). s.width) (sym is)) wide) h.below

pub remainder-requires-clause-rows_fit : goal.remainder-requires-clause-rows_fit
remainder-requires-clause-rows_fit g c =
    let len : length c.self.inside.rows ≡ 128 = omega arith in
    subst (λ l. All (λ row. row < 2 ^ g.W.Word.bits) (numbers l)) (sym (mid_to_end c.self.inside.rows 128 (128 - c.self.inside.rank) len))
    (rows_fit g.W.Word.bits c.self.inside _ c.self.view_is c.self.invariant c.requires.word)

pub remainder-requires-clause-v_fits : goal.remainder-requires-clause-v_fits
remainder-requires-clause-v_fits g c =
    let m : 2 ^ c.args.self.now.width ≤ 2 ^ g.W.Word.bits = pow_mono c.requires.word in omega (arith, c.requires.v_fits, m)
