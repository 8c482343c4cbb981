use Rattle.std.proofs.Common.{◌≡◌, ℕ, ◌+◌, ◌<◌, [], length, get_or, slice_index}
use Rattle.kk_field.specs.Polynomial.{product}
use Rattle.kk_linpoly.specs.declared.comb.TheConstants.{BLOCK}
use Rattle.kk_linpoly.proofs.comb.wide_windows.Given as goal

-- the windows before window i
abbrev pub invariant-loop-i : goal.invariant-loop-i
invariant-loop-i l = record {
  long : length l.windows ≡ BLOCK;
  made : (j k : ℕ) → j < l.i → k < 16 → slice_index (get_or l.windows j []) k ≡ product (slice_index l.vector (l.first + j)) k;
}
