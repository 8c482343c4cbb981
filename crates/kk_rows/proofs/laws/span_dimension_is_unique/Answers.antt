use Rattle.kk_rows.proofs.Dimensions.{dimension-same_span}
use Rattle.kk_rows.proofs.Spans.{same_span_members}
use Rattle.kk_rows.proofs.laws.span_dimension_is_unique.Goals as goal

pub returns : goal.returns
returns c = λ us vs h. dimension-same_span us vs (same_span_members us vs h)
