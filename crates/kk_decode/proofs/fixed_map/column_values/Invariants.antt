use Rattle.std.proofs.Common.{◌≡◌, ℕ, ◌+◌, ◌*◌, ◌<◌, ◌≤◌, length, slice_index}
use Rattle.kk_linpoly.specs.LinPoly.{IsOver}
use Rattle.kk_decode.specs.FixedMap.{column_value}
use Rattle.kk_decode.proofs.fixed_map.column_values.Given as goal

abbrev pub invariant-loop-c : goal.invariant-loop-c
invariant-loop-c g l = record {
  long : length l.values ≡ 64;
  done : (i : ℕ) → i < l.c → slice_index l.values i ≡ column_value l.field l.rows l.k i l.x;
  over : IsOver l.field.degree l.values;
  counted : l.steps ≤ l.initial.steps + l.c * l.k;
}
