use Rattle.std.proofs.Common.{◌+◌, ◌^◌, ◌<◌, ◌≤◌}
use Rattle.kk_linpoly.specs.LinPoly.{IsOver}
use Rattle.kk_decode.proofs.weights.multiply.Given as goal

abbrev pub invariant-loop-c : goal.invariant-loop-c
invariant-loop-c g l = record {
  over : IsOver l.field.degree l.coefficients;
  lower_below : l.lower < 2 ^ l.field.degree;
  counted : l.steps ≤ l.fn.steps + l.c-index;
}
