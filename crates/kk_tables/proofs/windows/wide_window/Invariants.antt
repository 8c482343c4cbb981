use Rattle.std.proofs.Common.{◌≡◌, ℕ, ◌<◌, length, slice_index}
use Rattle.kk_field.specs.Polynomial.{product}
use Rattle.kk_tables.proofs.windows.wide_window.Given as goal

-- the entries before j
abbrev pub invariant-loop-j : goal.invariant-loop-j
invariant-loop-j l = record {
  long : length l.table ≡ 16;
  entries : (k : ℕ) → k < l.j → slice_index l.table k ≡ product l.a k;
}
