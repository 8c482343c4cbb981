use Rattle.std.proofs.Common.{◌≡◌, length}
use Rattle.kk_yard.proofs.coding.interpolation.Given as goal

abbrev pub invariant-loop : goal.invariant-loop
invariant-loop g l = (l.interp.modulus ≡ l.field) × (l.interp.k ≡ 16) × (length l.interp.points ≡ l.counter)
