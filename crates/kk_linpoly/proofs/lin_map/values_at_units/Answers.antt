use Rattle.std.proofs.Common.{◌≡◌, ℕ, ◌*◌, ◌%◌, ◌^◌, ◌<◌, length, arith, sym, ap, ◌∙◌, subst, inl, inr}
use Rattle.std.proofs.Math.Nat.{mul_assoc, mul_comm}
use Rattle.std.proofs.Math.Pow.{pow-lt}
use Rattle.std.proofs.lemmas.Bool.{cases_lt}
use Rattle.std.proofs.lemmas.Nat.{one_shl}
use Rattle.std.proofs.lemmas.List.{get_or-set_same, get_or-set_other, length-set, length-replicate}
use Rattle.kk_field.proofs.Elimination.{slice_index-zeros}
use Rattle.kk_linpoly.specs.LinPoly.{value}
use Rattle.kk_linpoly.proofs.LinMaps.{HasUnits-of_values}
use Rattle.kk_linpoly.proofs.lin_map.values_at_units.Goals as goal

unit_is : (one i : ℕ) → one ≡ 1 → i < 64 → one * 2 ^ i % 18446744073709551616 ≡ 2 ^ i
unit_is one i e within = ap (λ o. o * 2 ^ i % 18446744073709551616) e ∙ one_shl i 64 within

pub loop-i-init : goal.loop-i-init
loop-i-init g c = record {
  long = length-replicate {A = ℕ} 64 0;
  before = λ j less. absurd (omega (arith, less));
  after = λ j more. slice_index-zeros 64 j;
  counted = omega arith;
}

pub eval-requires-clause-x_below : goal.eval-requires-clause-x_below
eval-requires-clause-x_below g c =
    let i = c.loop-i.i in
    let m = c.m-i-end.ensures in
    let less : i < c.args.field.now.degree = omega (arith, c.loop-i-test.true, m.value) in
    subst (λ x. x < 2 ^ c.args.field.now.degree) (sym (unit_is c.one-one.result i c.one-one.ensures.value (omega (arith, c.loop-i-test.true, m.at_most_64)))) (pow-lt less)

pub loop-i-preserved : goal.loop-i-preserved
loop-i-preserved g c =
    let i = c.loop-i.i in
    let values = c.loop-i.values in
    let x = c.eval.result in
    let m = c.m-i-end.ensures in
    let inv = c.loop-i.invariant in
    let room : i < length values = omega (arith, inv.long, c.loop-i-test.true, m.at_most_64) in
    let value_is : x ≡ value c.args.field.now c.args.f.now (2 ^ i) =
    c.eval.ensures.value ∙ ap (value c.args.field.now c.args.f.now) (unit_is c.one-one.result i c.one-one.ensures.value (omega (arith, c.loop-i-test.true, m.at_most_64))) in
    record {
      long = length-set values i x ∙ inv.long;
      before = λ j less. elim (cases_lt j i) [
        | inl before ↦ get_or-set_other values i j x 0 (λ e. omega (arith, e, before)) ∙ inv.before j before
        | inr here ↦ let e : j ≡ i = omega (arith, less, here) in
            rw e (get_or-set_same values i x 0 room ∙ value_is)
      ];
      after = λ j more. get_or-set_other values i j x 0 (λ e. omega (arith, e, more)) ∙ inv.after j (omega (arith, more));
      counted = omega (arith, inv.counted, c.eval.ensures.cost);
    }

pub returns-clause-value : goal.returns-clause-value
returns-clause-value g c =
    let f = c.args.field.now in
    let m = c.m-i-end.ensures in
    let inv = c.loop-i.invariant in
    let all : c.loop-i.i ≡ f.degree = omega (arith, c.loop-i.auto.i-end, c.loop-i-test.false, m.value) in
    HasUnits-of_values f c.one-one.ensures.irreducible.modulus.low_below c.args.f.now c.loop-i.values
    (λ j less. inv.before j (omega (arith, less, all))) (λ j more. inv.after j (omega (arith, more, all)))

pub returns-clause-cost : goal.returns-clause-cost
returns-clause-cost g c =
    let n = length c.args.f.now in
    let all : c.loop-i.i ≡ c.args.field.now.degree = omega (arith, c.loop-i.auto.i-end, c.loop-i-test.false, c.m-i-end.ensures.value) in
    let rounds : c.loop-i.i * (2 * n) ≡ 2 * c.args.field.now.degree * n =
    ap (λ k. k * (2 * n)) all ∙ sym (mul_assoc c.args.field.now.degree 2 n) ∙ ap (λ k. k * n) (mul_comm c.args.field.now.degree 2) in
    omega (arith, c.loop-i.invariant.counted, rounds)
