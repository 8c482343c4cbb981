use Rattle.std.proofs.Common.{◌≡◌, ℕ, ◌+◌, ◌*◌, ◌/◌, ◌^◌, ◌<◌, ◌≤◌, length, take, get_or, sym, ap, ◌∙◌, subst, arith}
use Rattle.std.specs.Prelude.{All}
use Rattle.std.proofs.lemmas.Nat.{mul-le, pow-add, pow_pos, div_below}
use Rattle.std.proofs.lemmas.List.{take_all}
use Rattle.std.proofs.lemmas.List.Elements.{All-push}
use Rattle.kk_rows.specs.Rows.{numbers}
use Rattle.kk_rows.specs.Span.{dimension}
use Rattle.kk_rows.proofs.RowLists.{numbers_each, numbers-take_more}
use Rattle.kk_linpoly.specs.LinPoly.{value}
use Rattle.kk_linpoly.proofs.Values.{value-trimmed}
use Rattle.kk_code.specs.Codeword.{width}
use Rattle.kk_decode.specs.Solving.{IsOnGraph}
use Rattle.kk_decode.proofs.Members.{within_of_part}
use Rattle.kk_decode.proofs.Rows.{count_rows}
use Rattle.kk_decode.proofs.uninjected.is_within_codeword.Given.{Over}
use Rattle.kk_decode.proofs.uninjected.is_within_codeword.Goals as goal
use Rattle.kk_decode.proofs.uninjected.is_within_codeword.Goals.{After-from_slice-f, After-rows-row-items}

-- each row has l + m bits
row_below : (g : Over) (c : After-rows-row-items g) (i : ℕ) → i < length c.rows-row-items.result.now
    → (get_or c.rows-row-items.result.now i (record { 0 = 0 })).0 < 2 ^ width c.args.code.now
row_below g c i less =
    let p = c.args.code.now in
    let items = c.rows-row-items.result.now in
    let below : All (λ r. r < 2 ^ c.args.space.now.width) (numbers items) =
    subst (All (λ r. r < 2 ^ c.args.space.now.width)) (sym c.rows-row-items.ensures.rows) c.rows-row-items.ensures.below in
    numbers_each (λ r. r < 2 ^ width p) items i (subst (λ w. All (λ r. r < 2 ^ w) (numbers items)) c.requires.width below) less

pub parts-x-requires : goal.parts-x-requires
parts-x-requires g c = row_below g (goal.at.parts-x-requires g c).After-rows-row-items c.loop-row.row-index c.loop-row-test.true

-- the polynomial has at most k coefficients
short : (g : Over) (c : After-from_slice-f g) → length c.from_slice-f.result ≤ c.args.code.now.k
short g c = omega (arith, c.from_slice-f.ensures.len, ap length c.symbols.ensures.symbols, c.requires.message.len)

pub loop-row-preserved : goal.loop-row-preserved
loop-row-preserved g c =
    let p = c.args.code.now in
    let u = c.args.u.now in
    let n = 2 ^ p.field.degree in
    let items = c.rows-row-items.result.now in
    let i = c.loop-row.row-index in
    let row = (get_or items i (record { 0 = 0 })).0 in
    let x = c.parts-x.result.0 in
    let below : row < 2 ^ p.l * 2 ^ p.field.degree = subst (λ n. row < n) (pow-add 2 p.l p.field.degree) (row_below g (goal.at.loop-row-preserved g c).After-rows-row-items i c.loop-row-test.true) in
    let small : row / 2 ^ p.field.degree < 2 ^ p.l = div_below row (2 ^ p.field.degree) (2 ^ p.l) (pow_pos p.field.degree) below in
    let value_is : c.eval.result ≡ value p.field u x =
    c.eval.ensures.value ∙ ap (λ f. value f c.from_slice-f.result x) c.requires.tables
    ∙ ap (λ cs. value p.field cs x) c.from_slice-f.ensures.value
    ∙ value-trimmed p.field c.k-k.ensures.in_range.low c.symbols.result.now x
    ∙ ap (λ cs. value p.field cs x) c.symbols.ensures.symbols in
    let here : IsOnGraph p u row = record {
      x = small;
      y = sym c.parts-x.ensures.y ∙ sym c.if-eval-y.false ∙ value_is ∙ ap (value p.field u) c.parts-x.ensures.x;
    } in
    record {
      each = subst (All (IsOnGraph p u)) (sym (numbers-take_more items i c.loop-row-test.true))
          (All-push (IsOnGraph p u) (numbers (take i items)) row c.loop-row.invariant.each here);
      counted = omega (arith, c.loop-row.invariant.counted, c.eval.ensures.cost, short g (goal.at.loop-row-preserved g c).After-from_slice-f);
    }

-- a row more has at most two steps for each symbol
rounds : (g : Over) (c : After-rows-row-items g) (i : ℕ) → i ≤ length c.rows-row-items.result.now
    → i * (2 * c.args.code.now.k) ≤ dimension c.args.space.now.rows * (2 * c.args.code.now.k)
rounds g c i within =
    let k = 2 * c.args.code.now.k in
    let count = count_rows c.rows-row-items.result.now c.args.space.now.rows c.rows-row-items.ensures.rows c.rows-row-items.ensures.reduced in
    mul-le i k (dimension c.args.space.now.rows) k (omega (arith, within, count)) (omega arith)

pub returns-then-eval-y-clause-cost : goal.returns-then-eval-y-clause-cost
returns-then-eval-y-clause-cost g c =
    let at = goal.at.returns-then-eval-y-clause-cost g c in
    let after = rounds g at.After-rows-row-items (c.loop-row.row-index + 1) (omega (arith, c.loop-row-test.true)) in
    omega (arith, c.loop-row.invariant.counted, c.eval.ensures.cost, short g at.After-from_slice-f, after)

pub returns-clause-cost : goal.returns-clause-cost
returns-clause-cost g c =
    omega (arith, c.loop-row.invariant.counted, rounds g (goal.at.returns-clause-cost g c).After-rows-row-items c.loop-row.row-index c.loop-row.auto.row-index-end)

pub returns-clause-within : goal.returns-clause-within
returns-clause-within g c told =
    let p = c.args.code.now in
    let u = c.args.u.now in
    let items = c.rows-row-items.result.now in
    let all : All (IsOnGraph p u) c.args.space.now.rows =
    subst (All (IsOnGraph p u)) (ap numbers (take_all c.loop-row.row-index items c.loop-row-test.false) ∙ c.rows-row-items.ensures.rows) c.loop-row.invariant.each in
    within_of_part p c.k-k.ensures.code c.args.space.now.rows u c.requires.enough all
