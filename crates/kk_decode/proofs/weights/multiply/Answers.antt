use Rattle.std.proofs.Common.{bit_xor, arith}
use Rattle.std.specs.Int.Bits.{xor_lt}
use Rattle.kk_linpoly.proofs.Coefficients.{coefficient-lt}
use Rattle.kk_decode.proofs.Elements.{IsOver-set}
use Rattle.kk_decode.proofs.weights.multiply.Goals as goal

pub loop-c-preserved : goal.loop-c-preserved
loop-c-preserved g c =
    let m = c.args.field.now.degree in
    let inv = c.loop-c.invariant in
    let sum = bit_xor c.mul.result c.loop-c.lower in
    record {
      over = IsOver-set m c.loop-c.coefficients c.loop-c.c-index sum (xor_lt m c.mul.result c.loop-c.lower c.mul.ensures.below inv.lower_below) inv.over;
      lower_below = coefficient-lt m c.loop-c.coefficients inv.over c.loop-c.c-index;
      counted = omega (arith, inv.counted, c.mul.ensures.cost);
    }
