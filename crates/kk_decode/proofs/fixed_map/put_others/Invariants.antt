use Rattle.std.proofs.Common.{◌≡◌, ℕ, ◌+◌, ◌-◌, ◌*◌, ◌^◌, ◌<◌, ◌≤◌, [], length, get_or}
use Rattle.kk_linpoly.specs.LinPoly.{IsOver}
use Rattle.kk_decode.specs.FixedMap.{column_value, element}
use Rattle.kk_decode.proofs.fixed_map.put_others.Given as goal

abbrev pub invariant-loop-i : goal.invariant-loop-i
invariant-loop-i g l = record {
  long : length l.rows ≡ 64;
  past : l.k ≤ l.i;
  first : (j : ℕ) → j < l.k → get_or l.rows j [] ≡ get_or l.fn.rows j [];
  of_field : (j : ℕ) → j < l.i → IsOver l.field.degree (get_or l.rows j []);
  others : (c j : ℕ) → c < l.k → l.k ≤ j → j < l.i → element l.rows j c ≡ column_value l.field l.fn.rows l.k c (2 ^ j);
  counted : l.steps ≤ l.fn.steps + (l.i - l.k) * (l.k * (l.k + 1));
}
