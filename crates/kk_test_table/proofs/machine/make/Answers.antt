use Rattle.std.proofs.Common.{length, ap, ◌∙◌}
use Rattle.kk_machine.specs.World.{World}
use Rattle.kk_machine.proofs.Worlds.{moved_size}
use Rattle.kk_test_table.proofs.machine.make.Goals as goal

pub returns-clause-width : goal.returns-clause-width
returns-clause-width g c = ap (λ (w : World). w.width) c.in_ok-step.ensures.after ∙ (moved_size c.args.world.now c.args.step).0

pub returns-clause-generations : goal.returns-clause-generations
returns-clause-generations g c = ap (λ (w : World). length w.words) c.in_ok-step.ensures.after ∙ (moved_size c.args.world.now c.args.step).1
