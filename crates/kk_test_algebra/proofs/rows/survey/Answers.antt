use Rattle.std.proofs.Common.{◌≡◌, ℕ, ◌<◌, ◌^◌, take, get_or, sym, ap, ◌∙◌, arith}
use Rattle.std.proofs.lemmas.List.{take_all}
use Rattle.kk_rows.specs.Rows.{numbers}
use Rattle.kk_rows.specs.Span.{in_span}
use Rattle.kk_rows.proofs.Spans.{in_span-inserted}
use Rattle.kk_rows.proofs.Dimensions.{dimension-same_span}
use Rattle.kk_rows.proofs.RowLists.{numbers-take_more, numbers_each}
use Rattle.kk_test_algebra.proofs.rows.survey.Goals as goal
use Rattle.kk_test_algebra.proofs.rows.survey.Goals.{After-loop-row}

pub insert-requires : goal.insert-requires
insert-requires c =
    rw c.loop-row.invariant.width
    (numbers_each (λ r. r < 2 ^ 6) c.args.rows.now c.loop-row.row-index c.requires.rows_fit (omega arith))

pub loop-row-preserved : goal.loop-row-preserved
loop-row-preserved c =
    let rows = c.args.rows.now in
    let i = c.loop-row.row-index in
    let v = (get_or rows i record { 0 = 0 }).0 in
    record {
      width = c.insert.ensures.width ∙ c.loop-row.invariant.width;
      span = λ x. in_span-inserted (numbers (take i rows)) c.loop-row.space.rows c.insert.new.self.rows v c.loop-row.invariant.span c.insert.ensures.span x
          ∙ ap (λ l. in_span l x) (sym (numbers-take_more rows i (omega arith)));
    }

span_at_end : (c : After-loop-row) → (x : ℕ) → in_span c.loop-row.space.rows x ≡ in_span (numbers c.args.rows.now) x
span_at_end c x =
    c.loop-row.invariant.span x
    ∙ ap (λ l. in_span (numbers l) x) (take_all c.loop-row.row-index c.args.rows.now c.loop-row-test.false)

pub contains-requires : goal.contains-requires
contains-requires c = rw c.loop-row.invariant.width c.requires.v_fits

pub returns-clause-count : goal.returns-clause-count
returns-clause-count c =
    c.rank.ensures.dimension
    ∙ dimension-same_span c.loop-row.space.rows (numbers c.args.rows.now) (span_at_end (goal.at.returns-clause-count c).After-loop-row)

pub returns-clause-inside : goal.returns-clause-inside
returns-clause-inside c = c.contains.ensures ∙ span_at_end (goal.at.returns-clause-inside c).After-loop-row c.args.v.0
