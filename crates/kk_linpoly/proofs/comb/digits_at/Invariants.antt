use Rattle.std.proofs.Common.{◌≡◌, ℕ, ◌<◌, length, slice_index}
use Rattle.kk_linpoly.specs.Matrix.{digit}
use Rattle.kk_linpoly.specs.declared.matrix.TheConstants.{MAX_COLUMNS}
use Rattle.kk_linpoly.proofs.comb.digits_at.Given as goal

-- the digits of the elements before place i
abbrev pub invariant-loop-i : goal.invariant-loop-i
invariant-loop-i l = record {
  long : length l.digits ≡ MAX_COLUMNS;
  entries : (k : ℕ) → k < l.i → slice_index l.digits k ≡ digit l.d (slice_index l.elements k);
}
