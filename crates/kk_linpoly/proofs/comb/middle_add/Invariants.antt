use Rattle.kk_linpoly.proofs.Combs.{AreAdded}
use Rattle.kk_linpoly.proofs.comb.middle_add.Given as goal

-- the rows before row j
abbrev pub invariant-loop-j : goal.invariant-loop-j
invariant-loop-j l = AreAdded l.field l.vector l.matrix l.first l.fn.image l.image l.j
