use Rattle.std.proofs.Common.{◌≡◌, ℕ, ◌<◌, [], length, get_or}
use Rattle.kk_linpoly.specs.LinPoly.{IsOver}
use Rattle.kk_decode.proofs.fixed_map.put_weights.Given as goal

abbrev pub invariant-loop-j : goal.invariant-loop-j
invariant-loop-j g l = record {
  long : length l.rows ≡ 64;
  of_field : (i : ℕ) → i < l.j → IsOver l.field.degree (get_or l.rows i []);
}
