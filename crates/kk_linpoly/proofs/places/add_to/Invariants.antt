use Rattle.std.proofs.Common.{◌≡◌, take}
use Rattle.kk_linpoly.specs.LinPoly.{sum_of}
use Rattle.kk_linpoly.proofs.places.add_to.Given as goal

abbrev pub invariant-loop-i : goal.invariant-loop-i
invariant-loop-i l = l.sum ≡ sum_of l.fn.sum (take l.i l.coefficients)
