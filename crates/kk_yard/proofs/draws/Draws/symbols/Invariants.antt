use Rattle.kk_linpoly.specs.LinPoly.{IsOver}
use Rattle.kk_yard.proofs.draws.Draws.symbols.Given as goal

abbrev pub invariant-loop-i : goal.invariant-loop-i
invariant-loop-i l = IsOver 31 l.symbols
