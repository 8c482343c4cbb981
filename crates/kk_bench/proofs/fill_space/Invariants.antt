use Rattle.std.proofs.Common.{◌≡◌}
use Rattle.kk_bench.specs.declared.TheConstants.{WIDTH}
use Rattle.kk_bench.proofs.fill_space.Given as goal

-- the space keeps its width
abbrev pub invariant-loop : goal.invariant-loop
invariant-loop l = l.space.width ≡ WIDTH
