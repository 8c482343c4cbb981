use Rattle.std.proofs.Common.{◌≡◌, take}
use Rattle.kk_machine.specs.World.{run, AllMay}
use Rattle.kk_test_table.proofs.machine.make_allowed.Given as goal

abbrev pub invariant-loop-made : goal.invariant-loop-made
invariant-loop-made l = (l.world ≡ run l.fn.world (take l.made l.moves)) × AllMay l.fn.world (take l.made l.moves)
