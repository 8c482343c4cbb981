use Rattle.std.proofs.Common.{◌≡◌, ◌^◌, ◌<◌, [], length, get_or, bit_xor, slice_index, sym, ap, ap₂, ◌∙◌, subst, arith}
use Rattle.std.proofs.Math.Pow.{pow_pos}
use Rattle.std.proofs.lemmas.List.{get_or_default}
use Rattle.std.proofs.lemmas.List.Elements.{All-get_or}
use Rattle.std.specs.Int.Bits.{xor_lt}
use Rattle.kk_field.specs.Field.{field_product}
use Rattle.kk_linpoly.specs.LinPoly.{IsOver}
use Rattle.kk_linpoly.proofs.XorSums.{xor_sum-none}
use Rattle.kk_linpoly.proofs.XorSums.{xor_sum-more}
use Rattle.kk_decode.specs.FixedMap.{element}
use Rattle.kk_decode.proofs.fixed_map.column_sum.Goals as goal
use Rattle.kk_decode.proofs.fixed_map.column_sum.Goals.{After-elements}

pub loop-j-init : goal.loop-j-init
loop-j-init g c = record {
  sum_is = sym (xor_sum-none _ 0 (λ i less. absurd (omega (arith, less))));
  below = pow_pos c.args.field.now.degree;
  counted = omega arith;
}

-- the elements of the row
row : (g : _) (c : After-elements g) → c.elements.result.now ≡ get_or c.args.rows.now c.loop-j.j []
row g c =
    c.elements.ensures.value ∙ c.index-rows-j.is
    ∙ get_or_default c.args.rows.now c.loop-j.j c.index-rows-j.result [] (omega (arith, c.loop-j-test.true, c.requires.count))

pub mul-sum-requires-clause-a_below : goal.mul-sum-requires-clause-a_below
mul-sum-requires-clause-a_below g c =
    let m = c.args.field.now.degree in
    let at = goal.at.mul-sum-requires-clause-a_below g c in
    let elements = c.elements.result.now in
    let over : IsOver m elements = subst (IsOver m) (sym (row g at.After-elements)) (c.requires.of_field c.loop-j.j c.loop-j-test.true) in
    All-get_or (λ a. a < 2 ^ m) elements c.args.c 0 (omega (arith, ap length c.elements.ensures.value, c.elements.ensures.count, c.requires.column)) over

pub loop-j-preserved : goal.loop-j-preserved
loop-j-preserved g c =
    let f = c.args.field.now in
    let at = goal.at.loop-j-preserved g c in
    let j = c.loop-j.j in
    let inv = c.loop-j.invariant in
    record {
      sum_is = ap₂ bit_xor inv.sum_is (c.mul-sum.ensures.value ∙ ap (λ r. field_product f (slice_index r c.args.c) (slice_index c.args.powers.now j)) (row g at.After-elements))
          ∙ xor_sum-more (λ i. field_product f (element c.args.rows.now i c.args.c) (slice_index c.args.powers.now i)) j;
      below = xor_lt f.degree c.loop-j.sum c.mul-sum.result inv.below c.mul-sum.ensures.below;
      counted = omega (arith, inv.counted, c.mul-sum.ensures.cost);
    }
