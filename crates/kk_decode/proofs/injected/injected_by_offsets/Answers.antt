use Rattle.std.proofs.Common.{◌≡◌, ℕ, ◌+◌, ◌/◌, ◌^◌, ◌<◌, ◌≤◌, List, [], ◌∷◌, ◌++◌, length, map, take, get_or, sym, ap, ap₂, ◌∙◌, subst, bit_xor, arith}
use Rattle.std.specs.Prelude.{All}
use Rattle.std.specs.Int.Bits.{xor_lt}
use Rattle.std.proofs.lemmas.List.{take_all, map-append, length-map}
use Rattle.kk_rows.specs.Rows.{numbers}
use Rattle.kk_rows.specs.Span.{in_span, dimension}
use Rattle.kk_rows.proofs.RowLists.{numbers_each, numbers-take_more, numbers-get_or}
use Rattle.kk_rows.proofs.Spans.{in_span-inserted}
use Rattle.kk_rows.proofs.Dimensions.{dimension-same_span}
use Rattle.kk_rows.proofs.AdditiveMaps.{dimension-map}
use Rattle.kk_linpoly.specs.LinPoly.{value}
use Rattle.kk_linpoly.proofs.Values.{value-trimmed, value-lt}
use Rattle.kk_code.specs.Codeword.{width}
use Rattle.kk_decode.specs.Offset.{offset}
use Rattle.kk_decode.proofs.Offsets.{IsAdditive-offset, meet_of_offsets}
use Rattle.kk_rows.specs.declared.rows.Row.{Row}
use Rattle.kk_decode.proofs.Counts.{counted_first, counted_next, counted_all}
use Rattle.kk_decode.proofs.injected.injected_by_offsets.Given.{Over}
use Rattle.kk_decode.proofs.injected.injected_by_offsets.Goals as goal
use Rattle.kk_decode.proofs.injected.injected_by_offsets.Goals.{After-value_at-value, After-rows-row-items}

below : (g : Over) (c : After-rows-row-items g) → All (λ r. r < 2 ^ width c.args.code.now) c.args.space.now.rows
below g c = subst (λ w. All (λ r. r < 2 ^ w) c.args.space.now.rows) c.requires.width c.rows-row-items.ensures.below

pub parts-x-requires : goal.parts-x-requires
parts-x-requires g c =
    let P : ℕ → Type 0 = λ r. r < 2 ^ width c.args.code.now in
    let items = c.rows-row-items.result.now in
    numbers_each P items c.loop-row.row-index
    (subst (All P) (sym c.rows-row-items.ensures.rows) (below g (goal.at.parts-x-requires g c).After-rows-row-items)) c.loop-row-test.true

-- the polynomial is that of the message
value_is : (g : Over) (c : After-value_at-value g) → c.value_at-value.result ≡ value c.args.code.now.field c.args.u.now c.parts-x.result.0
value_is g c =
    let f = c.args.code.now.field in
    let x = c.parts-x.result.0 in
    c.value_at-value.ensures.value ∙ ap (λ f. value f c.from_slice-f.result x) c.requires.tables
    ∙ ap (λ cs. value f cs x) c.from_slice-f.ensures.value
    ∙ value-trimmed f c.m.ensures.in_range.low c.symbols.result.now x
    ∙ ap (λ cs. value f cs x) c.symbols.ensures.symbols

-- and has at most k coefficients
short : (g : Over) (c : After-value_at-value g) → length c.from_slice-f.result ≤ c.args.code.now.k
short g c = omega (arith, c.from_slice-f.ensures.len, ap length c.symbols.ensures.symbols, c.requires.message.len)

pub insert-requires : goal.insert-requires
insert-requires g c =
    let f = c.args.code.now.field in
    let x = c.parts-x.result.0 in
    let small : c.value_at-value.result < 2 ^ f.degree =
    subst (λ y. y < 2 ^ f.degree) (sym (value_is g (goal.at.insert-requires g c).After-value_at-value)) (value-lt f c.m.ensures.in_range.low c.args.u.now x) in
    subst (λ w. c.from.result < 2 ^ w) (sym c.loop-row.invariant.wide)
    (subst (λ n. n < 2 ^ f.degree) (sym c.from.ensures) (xor_lt f.degree c.parts-x.result.1 c.value_at-value.result c.parts-x.ensures.y_below small))

pub loop-row-preserved : goal.loop-row-preserved
loop-row-preserved g c =
    let f = c.args.code.now.field in
    let u = c.args.u.now in
    let items = c.rows-row-items.result.now in
    let i = c.loop-row.row-index in
    let row = (get_or items i (record { 0 = 0 })).0 in
    let images : List ℕ → List ℕ = map (offset f u) in
    let p = c.args.code.now in
    let inside : i < length c.args.space.now.rows = omega (arith, c.loop-row-test.true, sym (length-map items (λ (row : Row). row.0)) ∙ ap length c.rows-row-items.ensures.rows) in
    let row_is : get_or c.args.space.now.rows i 0 ≡ row = ap (λ l. get_or l i 0) (sym c.rows-row-items.ensures.rows) ∙ numbers-get_or items i c.loop-row-test.true in
    let v = c.from.result in
    let v_is : v ≡ offset f u row =
    c.from.ensures ∙ ap₂ bit_xor c.parts-x.ensures.y (value_is g (goal.at.loop-row-preserved g c).After-value_at-value ∙ ap (value f u) c.parts-x.ensures.x) in
    let more : images (numbers (take i items)) ++ v ∷ [] ≡ images (numbers (take (i + 1) items)) =
    ap (λ y. images (numbers (take i items)) ++ y ∷ []) v_is
    ∙ sym (map-append (offset f u) (numbers (take i items)) (row ∷ [])) ∙ ap images (sym (numbers-take_more items i c.loop-row-test.true)) in
    record {
      wide = c.insert.ensures.width ∙ c.loop-row.invariant.wide;
      span = λ x. in_span-inserted (images (numbers (take i items))) c.loop-row.offsets.rows c.insert.new.self.rows v c.loop-row.invariant.span c.insert.ensures.span x
          ∙ ap (λ l. in_span l x) more;
      counted = counted_next p c.args.steps.now c.loop-row.steps c.value_at-value.new.steps i c.args.space.now.rows c.rows-row-items.ensures.reduced inside c.loop-row.invariant.counted
          (λ zero. c.value_at-value.ensures.free (c.parts-x.ensures.x ∙ ap (λ r. r / 2 ^ f.degree) (sym row_is) ∙ zero))
          (omega (arith, c.value_at-value.ensures.cost, short g (goal.at.loop-row-preserved g c).After-value_at-value));
    }

pub returns-clause-injected : goal.returns-clause-injected
returns-clause-injected g c =
    let p = c.args.code.now in
    let u = c.args.u.now in
    let rows = c.args.space.now.rows in
    let items = c.rows-row-items.result.now in
    let all : numbers (take c.loop-row.row-index items) ≡ rows =
    ap numbers (take_all c.loop-row.row-index items c.loop-row-test.false) ∙ c.rows-row-items.ensures.rows in
    let images = map (offset p.field u) rows in
    let rank_is : c.rank.result ≡ dimension images =
    c.rank.ensures.dimension
    ∙ dimension-same_span c.loop-row.offsets.rows (map (offset p.field u) (numbers (take c.loop-row.row-index items))) c.loop-row.invariant.span
    ∙ ap (λ l. dimension (map (offset p.field u) l)) all in
    let low = c.m.ensures.in_range.low in
    omega (
      arith,
      rank_is,
      meet_of_offsets p low rows u (below g (goal.at.returns-clause-injected g c).After-rows-row-items),
      dimension-map (offset p.field u) (IsAdditive-offset p.field low u) rows,
    )

-- each row with an x-part other than 0 has at most two steps for each symbol
pub loop-row-init : goal.loop-row-init
loop-row-init g c = record {
  wide = c.new-offsets.ensures.width ∙ c.m.ensures.degree;
  span = λ x. ap (λ l. in_span l x) c.new-offsets.ensures.rows;
  counted = counted_first c.args.code.now c.args.steps.now c.args.space.now.rows (below g c);
}

pub returns-clause-cost : goal.returns-clause-cost
returns-clause-cost g c = counted_all c.args.code.now c.args.steps.now c.loop-row.steps c.loop-row.row-index c.args.space.now.rows c.loop-row.invariant.counted
