use Rattle.std.proofs.Common.{◌+◌, ◌*◌, ◌≤◌}
use Rattle.std.specs.Prelude.{All}
use Rattle.kk_linpoly.specs.LinPoly.{IsOver}
use Rattle.kk_decode.proofs.weights.weights.Given as goal

abbrev pub invariant-loop-j : goal.invariant-loop-j
invariant-loop-j g l = record {
  over : All (IsOver l.field.degree) l.rows;
  counted : l.steps ≤ l.fn.steps + (l.k + l.k * (l.k + 1) + l.j * (3 * l.k + 2 * l.field.degree));
}
