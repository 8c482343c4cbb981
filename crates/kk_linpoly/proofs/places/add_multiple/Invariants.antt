use Rattle.std.proofs.Common.{◌≡◌, ◌+◌, ◌≤◌, take}
use Rattle.kk_linpoly.specs.LinPoly.{sum_of, scaled}
use Rattle.kk_linpoly.proofs.places.add_multiple.Given as goal

abbrev pub invariant-loop-i : goal.invariant-loop-i
invariant-loop-i g l = record {
  sum_is : l.sum ≡ sum_of l.fn.sum (scaled l.ring l.a (take l.i l.coefficients));
  counted : l.steps ≤ l.fn.steps + l.i;
}
