use Rattle.std.proofs.Common.{◌≡◌}
use Rattle.kk_bench.proofs.fill_generation.Given as goal

-- the pass stays one of the table
abbrev pub invariant-loop : goal.invariant-loop
invariant-loop l = l.pass.table ≡ l.fn.pass.table
