use Rattle.std.proofs.Common.{◌≡◌, ℕ, ◌++◌, take}
use Rattle.kk_rows.specs.Span.{in_span}
use Rattle.kk_rows.specs.Rows.{numbers}
use Rattle.kk_rows.proofs.row_space.RowSpace.sum.Given as goal

abbrev pub invariant-loop-row : goal.invariant-loop-row
invariant-loop-row l = record {
  width : l.sum.width ≡ l.a.width;
  span : (x : ℕ) → in_span l.sum.rows x ≡ in_span (l.a.rows ++ numbers (take l.row-index l.row-items)) x;
}
