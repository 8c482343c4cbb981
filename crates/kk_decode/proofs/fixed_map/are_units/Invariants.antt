use Rattle.std.proofs.Common.{◌≡◌, ◌≢◌, ℕ, ◌+◌, ◌*◌, ◌^◌, ◌<◌, ◌≤◌}
use Rattle.kk_decode.specs.FixedMap.{column_value}
use Rattle.kk_decode.proofs.fixed_map.are_units.Given as goal

abbrev pub invariant-loop-i : goal.invariant-loop-i
invariant-loop-i g l = record {
  one : (c : ℕ) → c < l.i → column_value l.field l.rows l.k c (2 ^ c) ≡ 1;
  zeros : (c j : ℕ) → c < l.k → j < l.i → c ≢ j → column_value l.field l.rows l.k c (2 ^ j) ≡ 0;
  counted : l.steps ≤ l.fn.steps + l.i * (l.k * (l.k + 1));
}
