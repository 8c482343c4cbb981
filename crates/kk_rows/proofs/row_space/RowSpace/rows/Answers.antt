use Rattle.std.proofs.Common.{◌≡◌, ◌-◌, ◌^◌, ◌<◌, length, ap, ◌∙◌, subst, arith}
use Rattle.std.specs.Prelude.{All}
use Rattle.kk_rows.specs.Space.{Space}
use Rattle.kk_rows.specs.Echelon.{IsReduced}
use Rattle.kk_rows.specs.Rows.{numbers}
use Rattle.kk_rows.proofs.RowLists.{mid_to_end}
use Rattle.kk_rows.proofs.row_space.RowSpace.rows.Goals as goal

pub returns-clause-rows : goal.returns-clause-rows
returns-clause-rows c =
    let len : length c.self.inside.rows ≡ 128 = omega arith in
    ap (λ l. numbers l) (mid_to_end c.self.inside.rows 128 (128 - c.self.inside.rank) len) ∙ ap (λ (s : Space). s.rows) c.self.view_is

pub returns-clause-reduced : goal.returns-clause-reduced
returns-clause-reduced c = subst (λ (s : Space). IsReduced s.rows) c.self.view_is c.self.invariant.reduced

pub returns-clause-below : goal.returns-clause-below
returns-clause-below c = subst (λ (s : Space). All (λ row. row < 2 ^ s.width) s.rows) c.self.view_is c.self.invariant.below
