use Rattle.std.proofs.Common.{◌-◌, arith}
use Rattle.kk_decode.proofs.Elements.{xor_coefficient-lt}
use Rattle.kk_decode.proofs.weights.value.Goals as goal

pub loop-i-preserved : goal.loop-i-preserved
loop-i-preserved g c = record {
  value_below = xor_coefficient-lt c.args.field.now.degree c.mul.result c.args.polynomial.now (c.loop-i.i - 1) c.mul.ensures.below c.requires.of_field;
  counted = omega (arith, c.loop-i.invariant.counted, c.mul.ensures.cost, c.loop-i-test.true);
}
