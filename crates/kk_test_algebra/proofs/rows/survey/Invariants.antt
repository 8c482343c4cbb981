use Rattle.std.proofs.Common.{◌≡◌, ℕ, take}
use Rattle.kk_rows.specs.Span.{in_span}
use Rattle.kk_rows.specs.Rows.{numbers}
use Rattle.kk_test_algebra.proofs.rows.survey.Given as goal

-- the space is the span of the rows so far
abbrev pub invariant-loop-row : goal.invariant-loop-row
invariant-loop-row l = record {
  width : l.space.width ≡ 6;
  span : (x : ℕ) → in_span l.space.rows x ≡ in_span (numbers (take l.row-index l.rows)) x;
}
