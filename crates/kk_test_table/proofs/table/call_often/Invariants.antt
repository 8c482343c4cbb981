use Rattle.std.proofs.Common.{◌≡◌}
use Rattle.kk_test_table.proofs.table.call_often.Given as goal

abbrev pub invariant-loop-i : goal.invariant-loop-i
invariant-loop-i l = l.pass.table ≡ l.fn.pass.table
