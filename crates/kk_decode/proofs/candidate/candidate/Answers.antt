use Rattle.std.proofs.Common.{◌≡◌, ◌+◌, ◌-◌, ◌*◌, ◌/◌, ◌≤◌, ℕ, List, length, map, sym, ap, ◌∙◌, subst, arith}
use Rattle.std.proofs.lemmas.Nat.{mul-le}
use Rattle.std.proofs.lemmas.List.{length-map}
use Rattle.kk_field.specs.Field.{Modulus}
use Rattle.kk_rows.specs.Span.{dimension}
use Rattle.kk_linpoly.specs.LinPoly.{IsOver}
use Rattle.kk_interp.specs.BiPoly.{IsOfField, IsZeroAt, weight}
use Rattle.kk_code.specs.Decoding.{Decodes}
use Rattle.kk_decode.specs.Solving.{point_of, Solves}
use Rattle.kk_decode.proofs.Messages.{some_is, none_is_no_some}
use Rattle.kk_decode.proofs.Rows.{zero_on}
use Rattle.kk_decode.proofs.Solving.{solves, y_is_half, y_is_short}
use Rattle.kk_decode.proofs.candidate.candidate.Goals as goal
use Rattle.kk_decode.proofs.candidate.candidate.Given.{Over}
use Rattle.kk_decode.proofs.candidate.candidate.Goals.{After-k, After-quotient}

light : (g : Over) (c : After-k g) → weight c.args.code.now.k c.least.result.qx c.least.result.qy ≤ (length c.args.interp.now.points + c.args.code.now.k - 1) / 2
light g c =
    let q = c.least.result in
    subst (λ k. weight k q.qx q.qy ≤ (length c.args.interp.now.points + k - 1) / 2) c.requires.k c.least.ensures.weight_at_most

of_field : (g : Over) (c : After-k g) → IsOfField c.args.code.now.field c.least.result.qx c.least.result.qy
of_field g c = subst (λ f. IsOfField f c.least.result.qx c.least.result.qy) c.requires.field c.least.ensures.of_field

solves_here : (g : Over) (c : After-k g) → (rows u : List ℕ) → c.args.interp.now.points ≡ map (point_of c.args.code.now.field) rows
    → length rows ≤ dimension rows → Decodes c.args.code.now rows u → Solves c.args.code.now.field c.least.result u
solves_here g c rows u points independent decodes =
    let p = c.args.code.now in
    let f = p.field in
    let q = c.least.result in
    let code = c.k.ensures.code in
    let low = c.k.ensures.in_range.low in
    let zeros : IsZeroAt f q.qx q.qy (map (point_of f) rows) =
    subst (IsZeroAt f q.qx q.qy) points (subst (λ e. IsZeroAt e q.qx q.qy c.args.interp.now.points) c.requires.field c.least.ensures.zero_at_points) in
    let few : length c.args.interp.now.points ≡ length rows = ap length points ∙ length-map rows (point_of f) in
    let less : weight p.k q.qx q.qy ≤ (dimension rows + p.k - 1) / 2 = omega (arith, light g c, few, independent) in
    solves p code c.k.ensures.in_range.k_low rows u q decodes (of_field g c) c.least.ensures.not_zero (zero_on f low q rows zeros) less

pub quotient-requires-clause-short : goal.quotient-requires-clause-short
quotient-requires-clause-short g c =
    let p = c.args.code.now in
    let here = (goal.at.quotient-requires-clause-short g c).After-k in
    let short = y_is_short p.field p.k (length c.args.interp.now.points) c.least.result (of_field g here) c.k.ensures.in_range.k_low c.requires.few (light g here) in
    omega (arith, short, c.k.ensures.symbols)

-- what a message that decodes the rows is to the quotient
asked : (g : Over) (c : After-k g) (rows u : List ℕ) → c.args.interp.now.points ≡ map (point_of c.args.code.now.field) rows
    → length rows ≤ dimension rows → Decodes c.args.code.now rows u
    → IsOver c.args.tables.now.degree u × (length u ≤ c.k.result) × Solves c.args.tables.now c.least.result u
asked g c rows u points independent decodes =
    let s = solves_here g c rows u points independent decodes in
    let same = sym c.requires.tables in (
      subst (λ f. IsOver f.degree u) same decodes.message.symbols,
      omega (arith, decodes.message.len, c.k.ensures.symbols),
      subst (λ f. Solves f c.least.result u) same s,
    )

pub returns-in_err-g-clause-only : goal.returns-in_err-g-clause-only
returns-in_err-g-clause-only g c rows u points independent decodes =
    let a = asked g (goal.at.returns-in_err-g-clause-only g c).After-k rows u points independent decodes in
    absurd (none_is_no_some _ (c.in_err-g.ensures.only u a.0 a.1 a.2))

pub returns-clause-only : goal.returns-clause-only
returns-clause-only g c rows u points independent decodes =
    let a = asked g (goal.at.returns-clause-only g c).After-k rows u points independent decodes in
    c.message_of.ensures.only u decodes.message (some_is _ _ (c.in_ok-g.ensures.only u a.0 a.1 a.2))

half : (g : Over) (c : After-k g) → 2 * length c.least.result.qy ≤ length c.args.interp.now.points + 2
half g c = y_is_half c.args.code.now.field c.args.code.now.k (length c.args.interp.now.points) c.least.result (of_field g c) c.k.ensures.in_range.k_low (light g c)

cost : (g : Over) (c : After-quotient g) → 2 * length c.least.result.qy ≤ length c.args.interp.now.points + 2
    → c.quotient.new.steps ≤ c.args.steps.now + (2 * c.args.code.now.field.degree + c.args.code.now.k * (length c.args.interp.now.points + 3))
cost g c short =
    let r = length c.args.interp.now.points in
    let degree = ap (λ (f : Modulus). f.degree) c.requires.tables in
    let terms = mul-le c.k.result (1 + 2 * length c.least.result.qy) c.args.code.now.k (r + 3) (omega (arith, c.k.ensures.symbols)) (omega (arith, short)) in
    omega (arith, c.quotient.ensures.cost, degree, terms)

pub returns-in_err-g-clause-cost : goal.returns-in_err-g-clause-cost
returns-in_err-g-clause-cost g c =
    let at = goal.at.returns-in_err-g-clause-cost g c in
    cost g at.After-quotient (half g at.After-k)

pub returns-clause-cost : goal.returns-clause-cost
returns-clause-cost g c =
    let at = goal.at.returns-clause-cost g c in
    cost g at.After-quotient (half g at.After-k)
