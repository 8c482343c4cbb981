use Rattle.std.proofs.Common.{◌+◌, ◌≤◌}
use Rattle.kk_linpoly.specs.LinPoly.{IsOver}
use Rattle.kk_decode.proofs.weights.scale.Given as goal

abbrev pub invariant-loop-c : goal.invariant-loop-c
invariant-loop-c g l = record {
  over : IsOver l.field.degree l.coefficients;
  counted : l.steps ≤ l.fn.steps + l.c-index;
}
