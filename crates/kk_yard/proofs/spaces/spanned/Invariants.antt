use Rattle.std.proofs.Common.{◌≡◌}
use Rattle.kk_yard.proofs.spaces.spanned.Given as goal

abbrev pub invariant-loop-row : goal.invariant-loop-row
invariant-loop-row l = l.space.width ≡ 55
