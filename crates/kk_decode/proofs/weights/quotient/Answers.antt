use Rattle.std.proofs.Common.{◌+◌, ◌-◌, bit_xor, arith}
use Rattle.std.specs.Prelude.{slice_index}
use Rattle.std.proofs.Math.Pow.{pow_pos}
use Rattle.kk_decode.proofs.Elements.{IsOver-zeros, IsOver-set, xor_coefficient-lt}
use Rattle.kk_decode.proofs.weights.quotient.Goals as goal

pub loop-i-init : goal.loop-i-init
loop-i-init g c =
    let m = c.args.field.now.degree in
    record { over = IsOver-zeros m 65; higher_below = pow_pos m; counted = omega arith }

pub loop-i-preserved : goal.loop-i-preserved
loop-i-preserved g c =
    let m = c.args.field.now.degree in
    let inv = c.loop-i.invariant in
    let i = c.loop-i.i - 1 in
    let below = xor_coefficient-lt m c.mul.result c.args.polynomial.now (i + 1) c.mul.ensures.below c.requires.of_field in
    record {
      over = IsOver-set m c.loop-i.quotient i (bit_xor c.mul.result (slice_index c.args.polynomial.now (i + 1))) below inv.over;
      higher_below = below;
      counted = omega (arith, inv.counted, c.mul.ensures.cost, c.loop-i-test.true);
    }
