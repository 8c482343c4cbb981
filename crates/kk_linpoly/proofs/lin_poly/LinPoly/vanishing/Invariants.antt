use Rattle.std.proofs.Common.{◌+◌, ◌*◌, ◌≤◌}
use Rattle.kk_linpoly.proofs.Vanishings.{Vanishes}
use Rattle.kk_linpoly.proofs.lin_poly.LinPoly.vanishing.Given as goal

abbrev pub invariant-loop-p : goal.invariant-loop-p
invariant-loop-p g l = record {
  so_far : Vanishes l.field l.points l.p-index l.v;
  counted : l.steps ≤ l.fn.steps + 2 * l.p-index * (l.p-index + 1);
}
