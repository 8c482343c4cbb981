use Rattle.std.proofs.Common.{◌≡◌, ℕ, ◌+◌, ◌*◌, ◌^◌, ◌<◌, ◌≤◌, length, slice_index}
use Rattle.kk_linpoly.specs.LinPoly.{value}
use Rattle.kk_linpoly.proofs.lin_map.values_at_units.Given as goal

-- the values at the elements before 2^i, and zeros
abbrev pub invariant-loop-i : goal.invariant-loop-i
invariant-loop-i g l = record {
  long : length l.values ≡ 64;
  before : (j : ℕ) → j < l.i → slice_index l.values j ≡ value l.field l.f (2 ^ j);
  after : (j : ℕ) → l.i ≤ j → slice_index l.values j ≡ 0;
  counted : l.steps ≤ l.fn.steps + l.i * (2 * length l.f);
}
