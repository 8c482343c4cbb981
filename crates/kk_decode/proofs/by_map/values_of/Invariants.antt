use Rattle.std.proofs.Common.{◌≡◌, ℕ, suc, ◌-◌, ◌/◌, ◌%◌, ◌^◌, ◌<◌, length, get_or, slice_index}
use Rattle.kk_linpoly.specs.LinPoly.{IsOver}
use Rattle.kk_decode.proofs.by_map.values_of.Given as goal

abbrev pub invariant-loop-t : goal.invariant-loop-t
invariant-loop-t l = record {
  long : length l.values ≡ 64;
  over : IsOver l.code.field.degree l.values;
  x : (i : ℕ) → i < l.t → get_or l.space.rows i 0 / 2 ^ l.code.field.degree ≡ 2 ^ (l.code.l - suc i);
  y : (i : ℕ) → i < l.t → get_or l.space.rows i 0 % 2 ^ l.code.field.degree ≡ slice_index l.values (l.code.l - suc i);
}
