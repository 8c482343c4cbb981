use Rattle.std.proofs.Common.{◌≡◌, ◌+◌, ◌*◌, ◌^◌, ◌<◌, ◌≤◌, take}
use Rattle.kk_field.specs.Field.{frobenius}
use Rattle.kk_linpoly.specs.LinPoly.{value}
use Rattle.kk_linpoly.proofs.lin_poly.LinPoly.eval.Given as goal

abbrev pub invariant-loop-c : goal.invariant-loop-c
invariant-loop-c g l = record {
  power_is : l.power ≡ frobenius l.ring l.c-index l.x;
  power_below : l.power < 2 ^ l.ring.degree;
  sum_is : l.sum ≡ value l.ring (take l.c-index l.c-items) l.x;
  sum_below : l.sum < 2 ^ l.ring.degree;
  counted : l.steps ≤ l.fn.steps + 2 * l.c-index;
}
