use Rattle.std.proofs.Common.{arith, ◌≡◌, ℕ, List, take, ap, ◌∙◌}
use Rattle.kk_linpoly.specs.LinPoly.{SamePolynomial, trimmed, sum_of}
use Rattle.kk_linpoly.specs.Storage.{IsStored}
use Rattle.kk_linpoly.proofs.Trimmed.{trimmed-same, SamePolynomial-from, SamePolynomial-trans}
use Rattle.kk_linpoly.proofs.Coefficients.{IsOver-sum_of, length-sum_of_max}
use Rattle.kk_linpoly.proofs.Stored.{SamePolynomial-stored, SamePolynomial-sum_of, count_of, ends_of, IsOver-trimmed, length-trimmed_of}
use Rattle.kk_linpoly.proofs.lin_poly.LinPoly.add.Goals as goal
use Rattle.kk_linpoly.proofs.lin_poly.LinPoly.add.Goals.{After-from_places}

same : (len : ℕ) (coefficients cs ds es : List ℕ) → IsStored len coefficients → take len coefficients ≡ cs → ds ≡ es
    → SamePolynomial (sum_of coefficients ds) (sum_of cs es)
same len coefficients cs ds es stored view ds_is =
    SamePolynomial-sum_of coefficients cs ds es (SamePolynomial-stored len coefficients cs stored view) (SamePolynomial-from ds es ds_is)

pub from_places-requires-clause-ends : goal.from_places-requires-clause-ends
from_places-requires-clause-ends c =
    let i = c.self.inside in
    let cs = c.args.self.now in
    let ds = c.args.g.now in
    ends_of c.add_to.new.sum (sum_of cs ds) c.max.result
    (SamePolynomial-trans c.add_to.new.sum (sum_of i.coefficients c.coeffs.result.now) (sum_of cs ds) (SamePolynomial-from _ _ c.add_to.ensures)
    (same i.len i.coefficients cs c.coeffs.result.now ds c.self.invariant c.self.view_is c.coeffs.ensures.value))
    (omega (
      arith,
      length-sum_of_max cs ds,
      count_of i.len i.coefficients cs c.self.invariant c.self.view_is,
      count_of c.g.inside.len c.g.inside.coefficients ds c.g.invariant c.g.view_is,
      c.max.ensures,
    ))

value_is : (c : After-from_places) → c.from_places.result ≡ trimmed (sum_of c.args.self.now c.args.g.now)
value_is c =
    let i = c.self.inside in
    c.from_places.ensures ∙ ap trimmed c.add_to.ensures
    ∙ trimmed-same (sum_of i.coefficients c.coeffs.result.now) (sum_of c.args.self.now c.args.g.now)
    (same i.len i.coefficients c.args.self.now c.coeffs.result.now c.args.g.now c.self.invariant c.self.view_is c.coeffs.ensures.value)

pub returns-clause-value : goal.returns-clause-value
returns-clause-value c = value_is (goal.at.returns-clause-value c).After-from_places

pub returns-clause-of_field : goal.returns-clause-of_field
returns-clause-of_field c m over g_over =
    IsOver-trimmed m c.from_places.result (sum_of c.args.self.now c.args.g.now)
    (value_is (goal.at.returns-clause-of_field c).After-from_places) (IsOver-sum_of m c.args.self.now c.args.g.now over g_over)

pub returns-clause-len : goal.returns-clause-len
returns-clause-len c =
    omega (
      arith,
      length-sum_of_max c.args.self.now c.args.g.now,
      length-trimmed_of c.from_places.result (sum_of c.args.self.now c.args.g.now) (value_is (goal.at.returns-clause-len c).After-from_places),
    )
