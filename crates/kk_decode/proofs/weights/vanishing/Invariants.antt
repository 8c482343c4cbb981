use Rattle.std.proofs.Common.{◌+◌, ◌*◌, ◌≤◌, length}
use Rattle.kk_linpoly.specs.LinPoly.{IsOver}
use Rattle.kk_decode.proofs.weights.vanishing.Given as goal

abbrev pub invariant-loop-node : goal.invariant-loop-node
invariant-loop-node g l = record {
  over : IsOver l.field.degree l.product;
  counted : l.steps ≤ l.fn.steps + l.node-index * (length l.nodes + 1);
}
