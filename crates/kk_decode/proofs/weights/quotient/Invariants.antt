use Rattle.std.proofs.Common.{◌+◌, ◌-◌, ◌^◌, ◌<◌, ◌≤◌, length}
use Rattle.kk_linpoly.specs.LinPoly.{IsOver}
use Rattle.kk_decode.proofs.weights.quotient.Given as goal

abbrev pub invariant-loop-i : goal.invariant-loop-i
invariant-loop-i g l = record {
  over : IsOver l.field.degree l.quotient;
  higher_below : l.higher < 2 ^ l.field.degree;
  counted : l.steps + l.i ≤ l.fn.steps + (length l.polynomial - 1);
}
