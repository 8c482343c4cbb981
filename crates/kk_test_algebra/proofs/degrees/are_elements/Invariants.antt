use Rattle.std.proofs.Common.{take}
use Rattle.kk_linpoly.specs.LinPoly.{IsOver}
use Rattle.kk_test_algebra.proofs.degrees.are_elements.Given as goal

abbrev pub invariant-loop-x : goal.invariant-loop-x
invariant-loop-x l = record { over : IsOver l.field.degree (take l.x-index l.xs) }
