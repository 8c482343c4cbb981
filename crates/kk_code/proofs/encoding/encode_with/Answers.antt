use Rattle.std.proofs.Common.{◌≡◌, ℕ, ◌^◌, List, [], ◌∷◌, ◌++◌, length, sym, ap, ◌∙◌, arith}
use Rattle.kk_linpoly.specs.LinPoly.{value}
use Rattle.kk_linpoly.proofs.Values.{value-trimmed}
use Rattle.kk_code.specs.Codeword.{Parameters, row_of, codeword}
use Rattle.kk_code.proofs.Values.{rows_more, rows_below, length-rows_below, point_is, length-codeword, codeword_below}
use Rattle.kk_code.proofs.encoding.encode_with.Goals as goal

pub eval-y-requires-clause-x_below : goal.eval-y-requires-clause-x_below
eval-y-requires-clause-x_below g c =
    let p = c.args.code.now in
    let point = point_is p c.loop-i.i c.l-i-end.ensures.in_range (omega arith) in
    rw (point.0, c.requires.field) point.1

pub row-requires-clause-x_below : goal.row-requires-clause-x_below
row-requires-clause-x_below g c =
    let point = point_is c.args.code.now c.loop-i.i c.l-i-end.ensures.in_range (omega arith) in rw point.0 point.1

pub row-requires-clause-y_below : goal.row-requires-clause-y_below
row-requires-clause-y_below g c = rw c.requires.field at c.eval-y.ensures.below

pub push-requires : goal.push-requires
push-requires g c = omega (arith, ap length c.loop-i.invariant.0, length-rows_below c.args.code.now c.args.u.now c.loop-i.i, c.l-i-end.ensures.in_range.l_high, c.l-i-end.ensures.in_range.m_high)

pub loop-i-preserved : goal.loop-i-preserved
loop-i-preserved g c =
    let p = c.args.code.now in
    let i = c.loop-i.i in
    let range = c.l-i-end.ensures.in_range in
    let point = point_is p i range (omega arith) in
    let y_is : c.eval-y.result ≡ value p.field c.args.u.now (2 ^ i) =
    rw (c.requires.field, c.from_slice-f.ensures.value, c.symbols.ensures.symbols, point.0) at c.eval-y.ensures.value
    ∙ value-trimmed p.field c.l-i-end.ensures.in_range.low c.args.u.now (2 ^ i) in
    let pushed = c.push.ensures ∙ ap (λ r. c.loop-i.rows ++ r ∷ []) (c.row.ensures ∙ ap (λ x. row_of p x c.eval-y.result) point.0) in (
      pushed ∙ ap (λ rows. rows ++ row_of p (2 ^ i) c.eval-y.result ∷ []) c.loop-i.invariant.0
          ∙ ap (λ y. rows_below p c.args.u.now i ++ row_of p (2 ^ i) y ∷ []) y_is
          ∙ sym (rows_more p c.args.u.now i),
      omega (arith, c.requires.message.len, ap length c.symbols.ensures.symbols),
    )

all_rows : (p : Parameters) (u rows : List ℕ) (i l : ℕ) → rows ≡ rows_below p u i → i ≡ l → l ≡ p.l → rows ≡ codeword p u
all_rows p u rows i l e at_end points = e ∙ ap (rows_below p u) (at_end ∙ points)

pub returns-clause-count : goal.returns-clause-count
returns-clause-count g c =
    let p = c.args.code.now in
    let rows = all_rows p c.args.u.now c.loop-i.rows c.loop-i.i c.l-i-end.result c.loop-i.invariant.0 (omega arith) c.l-i-end.ensures.points in
    ap length rows ∙ length-codeword p c.args.u.now

pub returns-clause-below : goal.returns-clause-below
returns-clause-below g c =
    let p = c.args.code.now in
    let rows = all_rows p c.args.u.now c.loop-i.rows c.loop-i.i c.l-i-end.result c.loop-i.invariant.0 (omega arith) c.l-i-end.ensures.points in
    rw rows (codeword_below p c.args.u.now c.l-i-end.ensures.in_range)
