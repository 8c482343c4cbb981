use Rattle.std.proofs.Common.{◌≡◌, length}
use Rattle.kk_test_table.proofs.machine.two_actors_insert_the_same_row.Given as goal

abbrev pub invariant-loop-step : goal.invariant-loop-step
invariant-loop-step g l = (length l.world.words ≡ 1) × (l.world.width ≡ 6)
