use Rattle.std.proofs.Common.{arith, ◌≡◌, ◌<◌, ◌^◌, length, replicate, ap, ◌∙◌, subst}
use Rattle.std.proofs.lemmas.List.{length-map}
use Rattle.kk_field.specs.Field.{field_product}
use Rattle.kk_linpoly.specs.LinPoly.{trimmed, sum_of, scaled}
use Rattle.kk_linpoly.proofs.Trimmed.{trimmed-same, SamePolynomial-from, SamePolynomial-trans}
use Rattle.kk_linpoly.proofs.Coefficients.{IsOver-scaled}
use Rattle.kk_linpoly.proofs.Stored.{SamePolynomial-zeros_sum, count_of, ends_of, IsOver-trimmed, length-trimmed_of}
use Rattle.kk_linpoly.proofs.lin_poly.LinPoly.scale.Given.{Over}
use Rattle.kk_linpoly.proofs.lin_poly.LinPoly.scale.Goals as goal
use Rattle.kk_linpoly.proofs.lin_poly.LinPoly.scale.Goals.{After-from_places}

pub from_places-requires-clause-ends : goal.from_places-requires-clause-ends
from_places-requires-clause-ends g c =
    let i = c.self.inside in
    let f = c.ring.result.now in
    let cs = c.coeffs.result.now in
    let product = scaled f c.args.c cs in
    ends_of c.add_multiple.new.sum product i.len
    (SamePolynomial-trans c.add_multiple.new.sum (sum_of (replicate 128 0) product) product (SamePolynomial-from _ _ c.add_multiple.ensures.value)
    (SamePolynomial-zeros_sum 128 product))
    (omega (
      arith,
      length-map cs (field_product f c.args.c),
      ap length c.coeffs.ensures.value,
      count_of i.len i.coefficients c.args.self.now c.self.invariant c.self.view_is,
    ))

value_is : (g : Over) (c : After-from_places g) → c.from_places.result ≡ trimmed (scaled c.args.field.now c.args.c c.args.self.now)
value_is g c =
    let product = scaled c.ring.result.now c.args.c c.coeffs.result.now in
    c.from_places.ensures ∙ ap trimmed c.add_multiple.ensures.value
    ∙ trimmed-same (sum_of (replicate 128 0) product) product (SamePolynomial-zeros_sum 128 product)
    ∙ ap (λ f. trimmed (scaled f c.args.c c.coeffs.result.now)) c.ring.ensures.value
    ∙ ap (λ l. trimmed (scaled c.args.field.now c.args.c l)) c.coeffs.ensures.value

pub returns-clause-value : goal.returns-clause-value
returns-clause-value g c = value_is g (goal.at.returns-clause-value g c).After-from_places

pub returns-clause-of_field : goal.returns-clause-of_field
returns-clause-of_field g c =
    let f = c.args.field.now in
    let low = subst (λ f. f.low < 2 ^ f.degree) c.ring.ensures.value c.ring.ensures.irreducible.modulus.low_below in
    IsOver-trimmed f.degree c.from_places.result (scaled f c.args.c c.args.self.now)
    (value_is g (goal.at.returns-clause-of_field g c).After-from_places) (IsOver-scaled f low c.args.c c.args.self.now)

pub returns-clause-len : goal.returns-clause-len
returns-clause-len g c =
    let f = c.args.field.now in
    omega (
      arith,
      length-map c.args.self.now (field_product f c.args.c),
      length-trimmed_of c.from_places.result (scaled f c.args.c c.args.self.now) (value_is g (goal.at.returns-clause-len g c).After-from_places),
    )
