use Rattle.std.proofs.Common.{ℕ, ◌-◌, ◌^◌, ◌<◌, take, get_or, sym, ap, subst, arith}
use Rattle.std.specs.Prelude.{All}
use Rattle.std.proofs.lemmas.List.{take_all}
use Rattle.std.proofs.lemmas.List.Elements.{All-push}
use Rattle.kk_rows.specs.Rows.{numbers}
use Rattle.kk_rows.proofs.RowLists.{numbers-take_more}
use Rattle.kk_code.specs.Codeword.{width}
use Rattle.kk_decode.proofs.Rows.{below_from_top}
use Rattle.kk_test_algebra.proofs.decode.are_rows_of.Goals as goal

pub loop-row-preserved : goal.loop-row-preserved
loop-row-preserved c =
    let w = width c.args.code.now in
    let rows = c.args.rows.now in
    let i = c.loop-row.row-index in
    let row = (get_or rows i (record { 0 = 0 })).0 in
    let P : ℕ → Type 0 = λ r. r < 2 ^ w in
    let here : row < 2 ^ w = below_from_top row (c.width-top.result - 1) w (omega (arith, c.width-top.ensures.in_range.m_low)) (ap (λ n. n - 1) c.width-top.ensures.bits) (omega (arith, c.if-row-top-gt1.false)) in
    record {
      below = subst (All P) (sym (numbers-take_more rows i c.loop-row-test.true)) (All-push P (numbers (take i rows)) row c.loop-row.invariant.below here);
    }

pub returns : goal.returns
returns c told =
    subst (λ l. All (λ r. r < 2 ^ width c.args.code.now) (numbers l)) (take_all c.loop-row.row-index c.args.rows.now c.loop-row-test.false) c.loop-row.invariant.below
