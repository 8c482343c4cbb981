use Rattle.std.proofs.Common.{◌≡◌, ℕ, ◌+◌, ◌<◌, ◌^◌, ◌++◌, ◌∷◌, [], take, get_or, sym, ap, ◌∙◌, subst, arith}
use Rattle.std.specs.Prelude.{All}
use Rattle.std.proofs.lemmas.List.{append_assoc, take_all}
use Rattle.kk_rows.specs.Rows.{numbers}
use Rattle.kk_rows.specs.Span.{in_span}
use Rattle.kk_rows.proofs.Spans.{in_span-inserted}
use Rattle.kk_rows.proofs.Dimensions.{dimension-same_span}
use Rattle.kk_rows.proofs.RowLists.{numbers-take_more, numbers_each}
use Rattle.kk_rows.proofs.row_space.RowSpace.sum.Goals as goal
use Rattle.kk_rows.proofs.row_space.RowSpace.sum.Goals.{After-loop-row}

pub insert-requires : goal.insert-requires
insert-requires c =
    let items = c.rows-row-items.result.now in
    let each = subst (All (λ row. row < 2 ^ c.args.b.now.width)) (sym c.rows-row-items.ensures.rows) c.rows-row-items.ensures.below in
    let small = numbers_each (λ row. row < 2 ^ c.args.b.now.width) items c.loop-row.row-index each (omega arith) in
    rw (c.loop-row.invariant.width, c.requires) small

pub loop-row-preserved : goal.loop-row-preserved
loop-row-preserved c =
    let items = c.rows-row-items.result.now in
    let i = c.loop-row.row-index in
    let v = (get_or items i record { 0 = 0 }).0 in
    let taken = c.args.a.now.rows ++ numbers (take i items) in
    let next : taken ++ v ∷ [] ≡ c.args.a.now.rows ++ numbers (take (i + 1) items) = append_assoc c.args.a.now.rows (numbers (take i items)) (v ∷ []) ∙ ap (λ l. c.args.a.now.rows ++ l) (sym (numbers-take_more items i (omega arith))) in
    record {
      width = c.insert.ensures.width ∙ c.loop-row.invariant.width;
      span = λ x. in_span-inserted taken c.loop-row.sum.rows c.insert.new.self.rows v c.loop-row.invariant.span c.insert.ensures.span x ∙ ap (λ l. in_span l x) next;
    }

span_at_end : (c : After-loop-row) → (x : ℕ) → in_span c.loop-row.sum.rows x ≡ in_span (c.args.a.now.rows ++ c.args.b.now.rows) x
span_at_end c x =
    let items = c.rows-row-items.result.now in
    let whole : numbers (take c.loop-row.row-index items) ≡ c.args.b.now.rows = ap (λ l. numbers l) (take_all c.loop-row.row-index items c.loop-row-test.false) ∙ c.rows-row-items.ensures.rows in
    c.loop-row.invariant.span x ∙ ap (λ l. in_span (c.args.a.now.rows ++ l) x) whole

pub returns-clause-dimension : goal.returns-clause-dimension
returns-clause-dimension c = dimension-same_span _ _ (span_at_end c)
