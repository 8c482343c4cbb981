use Rattle.std.proofs.Common.{◌^◌, ◌<◌, take, get_or, sym, ap, ◌∙◌, arith}
use Rattle.kk_rows.specs.Span.{in_span}
use Rattle.kk_rows.specs.Rows.{numbers}
use Rattle.kk_rows.proofs.RowLists.{numbers_each, numbers-take_more}
use Rattle.kk_rows.proofs.Spans.{in_span-inserted}
use Rattle.kk_code.specs.Codeword.{width}
use Rattle.kk_decode.proofs.spaces.spanned.Goals as goal

pub insert-requires : goal.insert-requires
insert-requires c =
    let below = numbers_each (λ r. r < 2 ^ width c.args.code.now) c.args.rows.now c.loop-row.row-index c.requires (omega arith) in
    rw c.loop-row.invariant.wide below

pub loop-row-preserved : goal.loop-row-preserved
loop-row-preserved c =
    let rows = c.args.rows.now in
    let i = c.loop-row.row-index in
    let row = (get_or rows i (record { 0 = 0 })).0 in
    record {
      wide = c.insert.ensures.width ∙ c.loop-row.invariant.wide;
      same = λ x. in_span-inserted (numbers (take i rows)) c.loop-row.space.rows c.insert.new.self.rows row c.loop-row.invariant.same c.insert.ensures.span x
          ∙ ap (λ l. in_span l x) (sym (numbers-take_more rows i (omega arith)));
    }
