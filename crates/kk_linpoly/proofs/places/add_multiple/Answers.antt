use Rattle.std.proofs.Common.{ap, ◌∙◌, refl, arith}
use Rattle.std.specs.Prelude.{slice_index, slice_set}
use Rattle.std.proofs.Common.{bit_xor}
use Rattle.kk_linpoly.proofs.Loops.{sum_started, multiple_more}
use Rattle.kk_linpoly.proofs.places.add_multiple.Goals as goal

pub loop-i-init : goal.loop-i-init
loop-i-init g c = record { sum_is = sum_started c.args.sum.now c.args.coefficients.now; counted = omega arith }

pub loop-i-preserved : goal.loop-i-preserved
loop-i-preserved g c =
    let i = c.loop-i.i in
    let cs = c.args.coefficients.now in
    record {
      sum_is = ap (λ x. slice_set c.loop-i.sum i (bit_xor (slice_index c.loop-i.sum i) x)) c.mul.ensures.value
          ∙ multiple_more c.args.ring.now c.args.a c.args.sum.now c.loop-i.sum cs i (slice_index cs i) c.loop-i-test.true c.requires.fits c.loop-i.invariant.sum_is refl;
      counted = omega (arith, c.loop-i.invariant.counted, c.mul.ensures.cost);
    }
