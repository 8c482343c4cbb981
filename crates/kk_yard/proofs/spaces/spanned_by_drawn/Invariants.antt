use Rattle.std.proofs.Common.{◌≡◌}
use Rattle.kk_yard.proofs.spaces.spanned_by_drawn.Given as goal

abbrev pub invariant-loop : goal.invariant-loop
invariant-loop l = l.space.width ≡ 63
