use Rattle.std.proofs.Common.{sym, ap, ◌∙◌}
use Rattle.kk_rows.specs.Space.{Space}
use Rattle.kk_rows.specs.Span.{dimension}
use Rattle.kk_rows.proofs.Reduced.{dimension_reduced}
use Rattle.kk_rows.proofs.row_space.RowSpace.rank.Goals as goal

pub returns-clause-dimension : goal.returns-clause-dimension
returns-clause-dimension c =
    sym (ap (λ (s : Space). dimension s.rows) (sym c.self.view_is) ∙ dimension_reduced _ c.self.invariant.reduced ∙ c.self.invariant.counted)
