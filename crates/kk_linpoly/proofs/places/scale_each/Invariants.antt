use Rattle.std.proofs.Common.{◌≡◌, ◌+◌, ◌≤◌, ◌++◌, take, drop}
use Rattle.kk_linpoly.specs.LinPoly.{scaled}
use Rattle.kk_linpoly.proofs.places.scale_each.Given as goal

abbrev pub invariant-loop-c : goal.invariant-loop-c
invariant-loop-c g l = record {
  multiples_are : l.coefficients ≡ scaled l.ring l.a (take l.c-index l.fn.coefficients) ++ drop l.c-index l.fn.coefficients;
  counted : l.steps ≤ l.fn.steps + l.c-index;
}
