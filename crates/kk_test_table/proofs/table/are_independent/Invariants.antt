use Rattle.std.proofs.Common.{◌≡◌}
use Rattle.kk_test_table.proofs.table.are_independent.Given as goal

abbrev pub invariant-loop-row : goal.invariant-loop-row
invariant-loop-row l = l.space.width ≡ 6
