use Rattle.std.proofs.Common.{◌≡◌, ℕ, take}
use Rattle.kk_rows.specs.Span.{in_span}
use Rattle.kk_rows.specs.Rows.{numbers}
use Rattle.kk_code.specs.Codeword.{width}
use Rattle.kk_decode.proofs.spaces.spanned.Given as goal

abbrev pub invariant-loop-row : goal.invariant-loop-row
invariant-loop-row l = record {
  wide : l.space.width ≡ width l.code;
  same : (x : ℕ) → in_span l.space.rows x ≡ in_span (numbers (take l.row-index l.rows)) x;
}
