use Rattle.std.proofs.Common.{◌≡◌, ℕ, ◌+◌, ◌-◌, ◌++◌, ◌∷◌, [], ◌<◌, ◌≤◌, ◌^◌, false, length, drop, arith, sym, ap, ◌∙◌, subst, refl}
use Rattle.std.specs.Prelude.{All}
use Rattle.std.specs.Int.Bits.{bit_or}
use Rattle.std.proofs.Math.Pow.{pow_mono}
use Rattle.std.proofs.lemmas.Bool.{false_from_ne_true}
use Rattle.std.proofs.lemmas.List.{drop-drop, length-drop, length-map}
use Rattle.kk_rows.specs.Rows.{numbers}
use Rattle.kk_rows.specs.declared.rows.Row.{Row}
use borrow.Rule.Slice.PartMut.{mid_of, put_mid}
use Rattle.kk_rows.specs.Span.{in_span, dimension}
use Rattle.kk_rows.specs.Space.{Space, IsRowSpace}
use Rattle.kk_rows.specs.Echelon.{IsLeadingBit, IsReduced, IsClear, HasLeads}
use Rattle.kk_rows.proofs.Spans.{in_span-push_inside, in_span-push_shifted}
use Rattle.kk_rows.proofs.Reduced.{dimension_reduced}
use Rattle.kk_rows.proofs.Leads.{fits_word, more_leads, one_more_lead}
use Rattle.kk_rows.proofs.RowLists.{mid_to_end, drop-put_to_end, room_left, grown_is_row_space}
use Rattle.kk_rows.proofs.row_space.RowSpace.insert_in.Given.{Over}
use Rattle.kk_rows.proofs.row_space.RowSpace.insert_in.Goals as goal
use Rattle.kk_rows.proofs.row_space.RowSpace.insert_in.Goals.{Else-remainder-eq0, After-insert_row}

-- the rank is below the width, since the row is outside the span
has_room : (g : Over) (c : Else-remainder-eq0 g) → c.self.inside.rank < c.self.inside.width
has_room g c =
    let outside : in_span c.args.self.now.rows c.args.v.0 ≡ false = false_from_ne_true _ (λ k. c.if-remainder-eq0.false (c.reduce_in-remainder.ensures.zero.1 k)) in
    let small = subst (λ (s : Space). c.args.v.0 < 2 ^ s.width) (sym c.self.view_is) c.requires.v_fits in
    room_left c.self.inside.width c.self.inside.rank c.self.inside.leads _ c.args.v.0 c.self.invariant small
    (subst (λ (s : Space). in_span s.rows c.args.v.0 ≡ false) (sym c.self.view_is) outside)

-- the rows after the free place are those of the space
front_is : (g : Over) (c : Else-remainder-eq0 g) → drop 1 (mid_of (128 - c.self.inside.rank - 1) (128 - (128 - c.self.inside.rank - 1)) c.self.inside.rows) ≡ drop (128 - c.self.inside.rank) c.self.inside.rows
front_is g c =
    let room = has_room g c in
    let len : length c.self.inside.rows ≡ 128 = omega arith in
    let place : 128 - c.self.inside.rank - 1 + 1 ≡ 128 - c.self.inside.rank = omega (arith, room, c.self.invariant.width_fits) in
    ap (λ l. drop 1 l) (mid_to_end c.self.inside.rows 128 (128 - c.self.inside.rank - 1) len)
    ∙ drop-drop 1 (128 - c.self.inside.rank - 1) c.self.inside.rows ∙ ap (λ k. drop k c.self.inside.rows) place

pub overflow_sub-start-2 : goal.overflow_sub-start-2
overflow_sub-start-2 g c =
    let room = has_room g (goal.at.overflow_sub-start-2 g c).Else-remainder-eq0 in
    omega (arith, room, c.self.invariant.width_fits)

pub returns-then-remainder-eq0-clause-span : goal.returns-then-remainder-eq0-clause-span
returns-then-remainder-eq0-clause-span g c =
    λ x. sym (in_span-push_inside c.args.self.now.rows c.args.v.0 (c.reduce_in-remainder.ensures.zero.0 c.if-remainder-eq0.true) x)

pub insert_row-requires-clause-reduced : goal.insert_row-requires-clause-reduced
insert_row-requires-clause-reduced g c =
    let front = front_is g (goal.at.insert_row-requires-clause-reduced g c).Else-remainder-eq0 in
    subst (λ l. IsReduced (numbers l)) (sym front) c.self.invariant.reduced

pub insert_row-requires-clause-clear : goal.insert_row-requires-clause-clear
insert_row-requires-clause-clear g c =
    let front = front_is g (goal.at.insert_row-requires-clause-clear g c).Else-remainder-eq0 in
    subst (λ l. IsClear (numbers l) c.reduce_in-remainder.result.0) (sym front)
    (subst (λ (s : Space). IsClear s.rows c.reduce_in-remainder.result.0) (sym c.self.view_is) c.reduce_in-remainder.ensures.clear)

-- the rows with the new one are the end of the array
end_is : (g : Over) (before : Else-remainder-eq0 g) (c : After-insert_row g) → before.self.inside ≡ c.self.inside
    → drop (128 - (c.self.inside.rank + 1)) (put_mid (128 - c.self.inside.rank - 1) (128 - (128 - c.self.inside.rank - 1)) c.self.inside.rows c.insert_row.new.rows) ≡ c.insert_row.new.rows
end_is g before c same =
    let rank = c.self.inside.rank in
    let len : length c.self.inside.rows ≡ 128 = omega arith in
    let place : 128 - (rank + 1) ≡ 128 - rank - 1 = omega arith in
    ap (λ k. drop k (put_mid (128 - rank - 1) (128 - (128 - rank - 1)) c.self.inside.rows c.insert_row.new.rows)) place
    ∙ drop-put_to_end c.self.inside.rows c.insert_row.new.rows 128 (128 - rank - 1) len (omega arith)

-- and are as many as the new rank
length_new : (g : Over) (before : Else-remainder-eq0 g) (c : After-insert_row g) → before.self.inside ≡ c.self.inside
    → length c.insert_row.new.rows ≡ length (mid_of (128 - c.self.inside.rank - 1) (128 - (128 - c.self.inside.rank - 1)) c.self.inside.rows) → length c.insert_row.new.rows ≡ c.self.inside.rank + 1
length_new g before c same kept =
    let room = subst (λ s. s.rank < s.width) same (has_room g before) in
    let rank = c.self.inside.rank in
    let len : length c.self.inside.rows ≡ 128 = omega arith in
    kept ∙ ap (λ l. length l) (mid_to_end c.self.inside.rows 128 (128 - rank - 1) len) ∙ length-drop (128 - rank - 1) c.self.inside.rows
    ∙ omega (arith, len, room, c.self.invariant.width_fits)

pub invariant_of-self : goal.invariant_of-self
invariant_of-self g c =
    let before = (goal.at.invariant_of-self g c).Else-remainder-eq0 in
    let after = (goal.at.invariant_of-self g c).After-insert_row in
    let room = has_room g before in
    let len = length_new g before after refl c.insert_row.auto.rows in
    let front = front_is g before in
    let small = subst (λ (s : Space). c.reduce_in-remainder.result.0 < 2 ^ s.width) (sym c.self.view_is) c.reduce_in-remainder.ensures.below in
    let below = c.insert_row.ensures.below c.self.inside.width (subst (λ l. All (λ r. r < 2 ^ c.self.inside.width) (numbers l)) (sym front) c.self.invariant.below) small in
    let w = c.reduce_in-remainder.result.0 in
    let leads = bit_or c.self.inside.leads c.leading_bit.result in
    let rows = drop (128 - c.self.inside.rank) c.self.inside.rows in
    let old : HasLeads leads (numbers rows) = more_leads c.self.inside.leads c.leading_bit.result (numbers rows) c.self.invariant.led in
    let led : HasLeads leads (numbers c.insert_row.new.rows) = c.insert_row.ensures.leads leads (subst (λ l. HasLeads leads (numbers l)) (sym front) old)
    (one_more_lead c.self.inside.leads w c.leading_bit.result (subst (λ n. (p : ℕ) → IsLeadingBit n p → c.leading_bit.result ≡ 2 ^ p) c.of.ensures c.leading_bit.ensures)) in
    subst (λ l. IsRowSpace c.self.inside.width (c.self.inside.rank + 1) leads (numbers l)) (sym (end_is g before after refl))
    (grown_is_row_space c.self.inside.width c.self.inside.rank c.self.inside.leads leads _ c.insert_row.new.rows c.self.invariant room len below c.insert_row.ensures.reduced led)

pub returns-clause-rank : goal.returns-clause-rank
returns-clause-rank g c =
    let now = ap (λ (s : Space). dimension s.rows) (sym c.self.view_is) ∙ dimension_reduced _ c.self.invariant.reduced ∙ c.self.invariant.counted in
    ap (λ n. n + 1) (sym now)

pub returns-clause-new_rank : goal.returns-clause-new_rank
returns-clause-new_rank g c =
    let before = (goal.at.returns-clause-new_rank g c).Else-remainder-eq0 in
    let after = (goal.at.returns-clause-new_rank g c).After-insert_row in
    let len = length_new g before after refl c.insert_row.auto.rows in
    let now = dimension_reduced (numbers c.insert_row.new.rows) c.insert_row.ensures.reduced in
    sym (ap (λ l. dimension (numbers l)) (end_is g before after refl) ∙ now ∙ length-map c.insert_row.new.rows (λ (row : Row). row.0) ∙ len)

pub returns-clause-span : goal.returns-clause-span
returns-clause-span g c =
    let before = (goal.at.returns-clause-span g c).Else-remainder-eq0 in
    let after = (goal.at.returns-clause-span g c).After-insert_row in
    let front = front_is g before in
    let viewed = ap (λ (s : Space). s.rows) c.self.view_is in
    λ x. ap (λ l. in_span (numbers l) x) (end_is g before after refl)
    ∙ c.insert_row.ensures.span x
    ∙ ap (λ l. in_span (numbers l ++ c.reduce_in-remainder.result.0 ∷ []) x) front
    ∙ ap (λ l. in_span (l ++ c.reduce_in-remainder.result.0 ∷ []) x) viewed
    ∙ sym (in_span-push_shifted c.args.self.now.rows c.args.v.0 c.reduce_in-remainder.result.0 c.reduce_in-remainder.ensures.difference x)

-- the rows of the space fit its words
pub insert_row-requires-clause-rows_fit : goal.insert_row-requires-clause-rows_fit
insert_row-requires-clause-rows_fit g c =
    let front = front_is g (goal.at.insert_row-requires-clause-rows_fit g c).Else-remainder-eq0 in
    let wide = subst (λ (s : Space). s.width ≤ g.W.Word.bits) (sym c.self.view_is) c.requires.word in
    subst (λ l. All (λ row. row < 2 ^ g.W.Word.bits) (numbers l)) (sym front)
    (fits_word c.self.inside.width g.W.Word.bits (numbers (drop (128 - c.self.inside.rank) c.self.inside.rows)) wide c.self.invariant.below)

pub insert_row-requires-clause-v_fits : goal.insert_row-requires-clause-v_fits
insert_row-requires-clause-v_fits g c =
    let m : 2 ^ c.args.self.now.width ≤ 2 ^ g.W.Word.bits = pow_mono c.requires.word in omega (arith, c.reduce_in-remainder.ensures.below, m)

pub of-requires : goal.of-requires
of-requires g c =
    let m : 2 ^ c.args.self.now.width ≤ 2 ^ g.W.Word.bits = pow_mono c.requires.word in record { fits = omega (arith, c.reduce_in-remainder.ensures.below, m) }
