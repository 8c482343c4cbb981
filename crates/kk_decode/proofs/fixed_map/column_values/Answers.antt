use Rattle.std.proofs.Common.{◌≡◌, ◌^◌, ◌<◌, length, take, slice_index, refl, ap, ◌∙◌, inl, inr, arith, get_or-take}
use Rattle.std.proofs.Math.Pow.{pow_pos}
use Rattle.std.proofs.lemmas.Bool.{cases_lt}
use Rattle.std.proofs.lemmas.List.{get_or-set_same, get_or-set_other, length-set, length-take-le}
use Rattle.std.proofs.lemmas.List.Elements.{All-set, All-replicate}
use Rattle.kk_field.specs.Field.{field_product}
use Rattle.kk_linpoly.specs.LinPoly.{xor_sum}
use Rattle.kk_linpoly.proofs.XorSums.{xor_sum-same}
use Rattle.kk_decode.specs.FixedMap.{column_value, element}
use Rattle.kk_decode.proofs.fixed_map.column_values.Goals as goal

pub loop-c-init : goal.loop-c-init
loop-c-init g c = record {
  long = refl;
  done = λ i less. absurd (omega (arith, less));
  over = All-replicate (λ a. a < 2 ^ c.args.field.now.degree) 64 0 (pow_pos c.args.field.now.degree);
  counted = omega arith;
}

pub loop-c-preserved : goal.loop-c-preserved
loop-c-preserved g c =
    let f = c.args.field.now in
    let rows = c.args.rows.now in
    let k = c.args.k in
    let values = c.loop-c.values in
    let n = c.loop-c.c in
    let sum = c.column_sum.result in
    let inv = c.loop-c.invariant in
    let powers = c.powers_of-powers.result in
    let count : length (take k powers) ≡ k = length-take-le k powers (omega (arith, c.requires.columns)) in
    let sum_is : sum ≡ column_value f rows k n c.args.x =
    c.column_sum.ensures.sum
    ∙ ap (xor_sum (λ j. field_product f (element rows j n) (slice_index (take k powers) j))) count
    ∙ xor_sum-same _ _ k (λ j less. ap (field_product f (element rows j n)) (get_or-take k powers j 0 less ∙ c.powers_of-powers.ensures.powers j less)) in
    record {
      long = length-set values n sum ∙ inv.long;
      done = λ i less. elim (cases_lt i n) [
        | inl before ↦ get_or-set_other values n i sum 0 (λ e. omega (arith, e, before)) ∙ inv.done i before
        | inr here ↦
            let e : i ≡ n = omega (arith, less, here) in
            rw e (get_or-set_same values n sum 0 (omega (arith, inv.long, c.loop-c-test.true, c.requires.columns)) ∙ sum_is)
      ];
      over = All-set (λ a. a < 2 ^ f.degree) values n sum c.column_sum.ensures.below inv.over;
      counted = omega (arith, inv.counted, c.column_sum.ensures.cost, count);
    }
