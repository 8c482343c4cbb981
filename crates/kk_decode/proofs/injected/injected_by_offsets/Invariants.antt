use Rattle.std.proofs.Common.{◌≡◌, ℕ, take, map}
use Rattle.kk_rows.specs.Span.{in_span}
use Rattle.kk_rows.specs.Rows.{numbers}
use Rattle.kk_decode.specs.Offset.{offset}
use Rattle.kk_decode.proofs.Counts.{AreCounted}
use Rattle.kk_decode.proofs.injected.injected_by_offsets.Given as goal

-- the offsets of the rows so far
abbrev pub invariant-loop-row : goal.invariant-loop-row
invariant-loop-row g l = record {
  wide : l.offsets.width ≡ l.code.field.degree;
  span : (x : ℕ) → in_span l.offsets.rows x ≡ in_span (map (offset l.code.field l.u) (numbers (take l.row-index l.row-items))) x;
  counted : AreCounted l.code l.fn.steps l.steps l.row-index l.space.rows;
}
