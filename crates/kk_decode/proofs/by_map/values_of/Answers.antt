use Rattle.std.proofs.Common.{◌≡◌, ℕ, suc, ◌-◌, ◌/◌, ◌%◌, ◌^◌, ◌<◌, set, get_or, slice_index, inl, inr, refl, sym, ap, ◌∙◌, subst, arith}
use Rattle.std.specs.Prelude.{All}
use Rattle.std.proofs.Math.Pow.{pow_pos}
use Rattle.std.proofs.lemmas.Bool.{cases_lt}
use Rattle.std.proofs.lemmas.Nat.{one_shl}
use Rattle.std.proofs.lemmas.List.{get_or-set_same, get_or-set_other, length-set}
use Rattle.std.proofs.lemmas.List.Elements.{All-set, All-replicate}
use Rattle.kk_rows.specs.Rows.{numbers}
use Rattle.kk_rows.proofs.RowLists.{numbers_each, numbers-get_or}
use Rattle.kk_code.specs.Codeword.{width}
use Rattle.kk_decode.proofs.by_map.values_of.Goals as goal

pub loop-t-init : goal.loop-t-init
loop-t-init c = record {
  long = refl;
  over = All-replicate (λ a. a < 2 ^ c.args.code.now.field.degree) 64 0 (pow_pos c.args.code.now.field.degree);
  x = λ i less. absurd (omega (arith, less));
  y = λ i less. absurd (omega (arith, less));
}

pub parts-x-requires : goal.parts-x-requires
parts-x-requires c =
    let items = c.rows-rows.result.now in
    let below : All (λ r. r < 2 ^ c.args.space.now.width) (numbers items) =
    subst (All (λ r. r < 2 ^ c.args.space.now.width)) (sym c.rows-rows.ensures.rows) c.rows-rows.ensures.below in
    numbers_each (λ r. r < 2 ^ width c.args.code.now) items c.loop-t.t (subst (λ w. All (λ r. r < 2 ^ w) (numbers items)) c.requires below) c.loop-t-test.true

pub loop-t-preserved : goal.loop-t-preserved
loop-t-preserved c =
    let p = c.args.code.now in
    let n = 2 ^ p.field.degree in
    let t = c.loop-t.t in
    let items = c.rows-rows.result.now in
    let rows = c.args.space.now.rows in
    let values = c.loop-t.values in
    let inv = c.loop-t.invariant in
    let y = c.parts-x.result.1 in
    let place = c.l-l.result - 1 - t in
    let range = c.l-l.ensures.in_range in
    let l_is : c.l-l.result ≡ p.l = c.l-l.ensures.points in
    let less : t < p.l = omega (arith, c.loop-t-test.true, c.if-rows-l.false, l_is) in
    let place_is : place ≡ p.l - suc t = omega (arith, less, l_is) in
    let row : (get_or items t (record { 0 = 0 })).0 ≡ get_or rows t 0 = sym (numbers-get_or items t c.loop-t-test.true) ∙ ap (λ l. get_or l t 0) c.rows-rows.ensures.rows in
    let apart : (i : ℕ) → i < t → slice_index (set values place y) (p.l - suc i) ≡ slice_index values (p.l - suc i) = λ i before.
    get_or-set_other values place (p.l - suc i) y 0 (λ e. omega (arith, e, before, less, place_is)) in
    record {
      long = length-set values place y ∙ inv.long;
      over = All-set (λ a. a < n) values place y c.parts-x.ensures.y_below inv.over;
      x = λ i inside. elim (cases_lt i t) [
        | inl before ↦ inv.x i before
        | inr here ↦
            let e : i ≡ t = omega (arith, inside, here) in
            rw e (ap (λ r. r / n) (sym row) ∙ sym c.parts-x.ensures.x ∙ c.if-x-i.false
            ∙ one_shl place 64 (omega (arith, place_is, range.l_high, range.m_high)) ∙ ap (λ a. 2 ^ a) place_is)
      ];
      y = λ i inside. elim (cases_lt i t) [
        | inl before ↦ inv.y i before ∙ sym (apart i before)
        | inr here ↦
            let e : i ≡ t = omega (arith, inside, here) in
            rw e (ap (λ r. r % n) (sym row) ∙ sym c.parts-x.ensures.y
            ∙ sym (ap (slice_index (set values place y)) (sym place_is)
            ∙ get_or-set_same values place y 0 (omega (arith, inv.long, place_is, less, range.l_high, range.m_high))))
      ];
    }
