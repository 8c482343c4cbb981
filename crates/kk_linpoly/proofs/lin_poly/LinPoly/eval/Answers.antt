use Rattle.std.proofs.Common.{◌^◌, ◌<◌, ap, sym, subst, ◌∙◌, refl, arith}
use Rattle.std.specs.Prelude.{slice_index}
use Rattle.std.proofs.Math.Pow.{pow_pos}
use Rattle.std.proofs.Math.Numerals.{add-one}
use Rattle.std.specs.Int.Bits.{xor_lt}
use Rattle.kk_field.specs.Field.{field_product, frobenius}
use Rattle.kk_linpoly.proofs.Loops.{value_none, value_more}
use Rattle.kk_linpoly.proofs.lin_poly.LinPoly.eval.Goals as goal

pub loop-c-init : goal.loop-c-init
unfolding frobenius
loop-c-init g c =
    let f = c.ring-ring.result.now in
    record {
      power_is = refl;
      power_below = subst (λ f. c.args.x < 2 ^ f.degree) (sym c.ring-ring.ensures.value) c.requires.x_below;
      sum_is = value_none f c.coeffs-c-items.result.now c.args.x;
      sum_below = pow_pos f.degree;
      counted = omega arith;
    }

pub loop-c-preserved : goal.loop-c-preserved
unfolding frobenius
loop-c-preserved g c =
    let f = c.ring-ring.result.now in
    let inv = c.loop-c.invariant in
    let i = c.loop-c.c-index in
    let cs = c.coeffs-c-items.result.now in
    record {
      power_is = c.square-power.ensures.value ∙ ap (λ x. field_product f x x) inv.power_is ∙ ap (λ k. frobenius f k c.args.x) (sym (add-one i));
      power_below = c.square-power.ensures.below;
      sum_is = value_more f cs i (slice_index cs i) c.args.x c.loop-c.power c.loop-c.sum c.mul-sum.result c.loop-c-test.true inv.sum_is inv.power_is refl c.mul-sum.ensures.value;
      sum_below = xor_lt f.degree c.loop-c.sum c.mul-sum.result inv.sum_below c.mul-sum.ensures.below;
      counted = omega (arith, inv.counted, c.mul-sum.ensures.cost, c.square-power.ensures.cost);
    }
