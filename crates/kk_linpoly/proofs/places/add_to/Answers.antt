use Rattle.kk_linpoly.proofs.Loops.{sum_started, sum_more}
use Rattle.kk_linpoly.proofs.places.add_to.Goals as goal

pub loop-i-init : goal.loop-i-init
loop-i-init c = sum_started c.args.sum.now c.args.coefficients.now

pub loop-i-preserved : goal.loop-i-preserved
loop-i-preserved c =
    sum_more c.args.sum.now c.loop-i.sum c.args.coefficients.now c.loop-i.i c.loop-i-test.true c.requires c.loop-i.invariant
