use Rattle.std.proofs.Common.{arith, ◌≡◌, ◌+◌, ◌-◌, ◌<◌, ◌^◌, ◌++◌, List, ◌∷◌, ℕ, length, take, drop, map, replicate, ap, ◌∙◌, subst}
use Rattle.std.proofs.lemmas.List.{length-map}
use Rattle.kk_field.specs.Field.{Modulus, field_product}
use Rattle.kk_linpoly.specs.LinPoly.{trimmed, squared_up}
use Rattle.kk_linpoly.proofs.Trimmed.{SamePolynomial-from_trimmed}
use Rattle.kk_linpoly.proofs.Coefficients.{IsOver-squared_up}
use Rattle.kk_linpoly.proofs.Stored.{count_of, ends_of, IsOver-trimmed, length-trimmed_of}
use Rattle.kk_linpoly.proofs.ComposeLoop.{square_placed}
use Rattle.kk_linpoly.proofs.lin_poly.LinPoly.square_up.Given.{Over}
use Rattle.kk_linpoly.proofs.lin_poly.LinPoly.square_up.Goals as goal
use Rattle.kk_linpoly.proofs.lin_poly.LinPoly.square_up.Goals.{After-from_places}

squares_of : Modulus → List ℕ → List ℕ
squares_of f cs = map (λ c. field_product f c c) cs

pub from_places-requires-clause-ends : goal.from_places-requires-clause-ends
from_places-requires-clause-ends g c =
    let i = c.self.inside in
    let k = i.len + 1 - 1 in
    let squares = c.square_each.new.coefficients in
    ends_of (take 1 (replicate 128 0) ++ (squares ++ drop k (drop 1 (replicate 128 0)))) (0 ∷ squares) (i.len + 1)
    (SamePolynomial-from_trimmed _ _ (square_placed squares k))
    (omega (
      arith,
      c.square_each.auto.coefficients,
      ap length c.copy_from_slice.ensures.after,
      ap length c.coeffs.ensures.value,
      count_of i.len i.coefficients c.args.self.now c.self.invariant c.self.view_is,
    ))

value_is : (g : Over) (c : After-from_places g) → c.from_places.result ≡ trimmed (squared_up c.args.field.now c.args.self.now)
unfolding squares_of
value_is g c =
    let k = c.self.inside.len + 1 - 1 in
    c.from_places.ensures
    ∙ ap (λ l. trimmed (take 1 (replicate 128 0) ++ (l ++ drop k (drop 1 (replicate 128 0)))))
    (c.square_each.ensures.value ∙ ap (squares_of c.ring.result.now) (c.copy_from_slice.ensures.after ∙ c.coeffs.ensures.value)
    ∙ ap (λ f. squares_of f c.args.self.now) c.ring.ensures.value)
    ∙ square_placed (squares_of c.args.field.now c.args.self.now) k

pub returns-clause-value : goal.returns-clause-value
returns-clause-value g c = value_is g (goal.at.returns-clause-value g c).After-from_places

pub returns-clause-of_field : goal.returns-clause-of_field
returns-clause-of_field g c =
    let f = c.args.field.now in
    let low = subst (λ f. f.low < 2 ^ f.degree) c.ring.ensures.value c.ring.ensures.irreducible.modulus.low_below in
    IsOver-trimmed f.degree c.from_places.result (squared_up f c.args.self.now)
    (value_is g (goal.at.returns-clause-of_field g c).After-from_places) (IsOver-squared_up f low c.args.self.now)

pub returns-clause-len : goal.returns-clause-len
returns-clause-len g c =
    let f = c.args.field.now in
    let square : ℕ → ℕ = λ x. field_product f x x in
    omega (
      arith,
      length-map c.args.self.now square,
      length-trimmed_of c.from_places.result (squared_up f c.args.self.now) (value_is g (goal.at.returns-clause-len g c).After-from_places),
    )
