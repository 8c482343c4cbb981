use Rattle.std.proofs.Common.{bit_xor}
use Rattle.kk_field.specs.Echelon.{InSpan}
use Rattle.kk_field.proofs.echelon.Echelon.reduced.Given as goal

-- what is left of v differs from it by a sum of entries
abbrev pub invariant-loop-left : goal.invariant-loop-left
invariant-loop-left l = InSpan l.self.pivots (bit_xor l.v l.left)

abbrev pub decreases-loop-left : goal.decreases-loop-left
decreases-loop-left l = l.left
