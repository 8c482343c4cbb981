use Rattle.std.proofs.Common.{◌≡◌}
use Rattle.kk_bench.proofs.fill_quarter.Given as goal

-- the pass stays one of the table
abbrev pub invariant-loop-at : goal.invariant-loop-at
invariant-loop-at l = l.pass.table ≡ l.fn.pass.table
