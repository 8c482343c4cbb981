use Rattle.std.proofs.Common.{◌<◌, length, refl, ◌∙◌, arith}
use Rattle.kk_machine.specs.World.{run, AllMay}
use Rattle.kk_machine.proofs.Worlds.{run-take_more}
use Rattle.kk_test_table.proofs.machine.make_allowed.Goals as goal

pub loop-made-init : goal.loop-made-init
unfolding run AllMay
loop-made-init c = (refl, tt)

pub loop-made-preserved : goal.loop-made-preserved
loop-made-preserved c =
    let inside : c.loop-made.made < length c.args.moves.now = omega arith in
    let more = run-take_more c.args.world.now c.args.moves.now c.loop-made.made _ c.loop-made.world inside c.loop-made.invariant (c.if-not-may.ensures.0 refl) in
    (c.in_ok-step.ensures.after ∙ more.0, more.1)
