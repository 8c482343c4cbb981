use Rattle.kk_field.proofs.Criterion.{artin_schreier}
use Rattle.kk_field.proofs.Elimination.{Covers}
use Rattle.kk_field.proofs.ring.Ring.only_trivial_idempotents.Given as goal

-- the basis covers the images of the residues below X^i
abbrev pub invariant-loop-i : goal.invariant-loop-i
invariant-loop-i l = Covers (artin_schreier l.self) l.basis.pivots l.i
