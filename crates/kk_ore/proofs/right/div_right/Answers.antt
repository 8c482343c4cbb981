use Rattle.std.proofs.Common.{◌≡◌, ℕ, suc, ◌+◌, ◌-◌, ◌*◌, ◌<◌, ◌≤◌, List, Some, length, bit_xor, sym, ap, ◌∙◌, subst, arith}
use Rattle.std.specs.Prelude.{slice_index}
use Rattle.kk_linpoly.specs.LinPoly.{SamePolynomial, trimmed, degree, composed}
use Rattle.kk_linpoly.proofs.Trimmed.{trimmed-trimmed, SamePolynomial-sym, SamePolynomial-trans, SamePolynomial-from, length-trimmed_of_degree}
use Rattle.kk_linpoly.proofs.Coefficients.{IsOver-same}
use Rattle.kk_linpoly.proofs.Stored.{SamePolynomial-append_zeros}
use Rattle.kk_ore.proofs.Below.{last_coefficient, degree_of}
use Rattle.kk_ore.proofs.Turns.{right_cost}
use Rattle.kk_ore.proofs.Lengths.{length-right_quotient, length-remainder}
use Rattle.kk_ore.proofs.Quotients.{right_quotient_from}
use Rattle.kk_ore.proofs.right.div_right.Given.{Over}
use Rattle.kk_ore.proofs.right.div_right.Goals as goal
use Rattle.kk_ore.proofs.right.div_right.Goals.{After-padded-remainder}

-- the divisor has coefficients, and the last isn't 0
divisor_degree : (g : Over) (c : After-padded-remainder g) → (e : ℕ) × (degree c.args.b.now ≡ Some e) × (length c.args.b.now ≡ suc e)
divisor_degree g c =
    let b = c.args.b.now in
    let e : (e : ℕ) × (degree b ≡ Some e) = degree_of b c.requires.b_not_zero in
    (e.0, e.1, ap length (sym c.coeffs-b.ensures.no_zero_at_end) ∙ length-trimmed_of_degree b e.0 e.1)

padded_same : (g : Over) (c : After-padded-remainder g) → SamePolynomial c.padded-remainder.result c.args.a.now
padded_same g c =
    let cs = c.coeffs-a.result.now in
    SamePolynomial-trans c.padded-remainder.result cs c.args.a.now
    (subst (λ l. SamePolynomial l cs) (sym c.padded-remainder.ensures) (SamePolynomial-append_zeros cs (128 - length cs)))
    (SamePolynomial-from cs c.args.a.now c.coeffs-a.ensures.value)

pub cancel-quotient-requires-clause-some : goal.cancel-quotient-requires-clause-some
cancel-quotient-requires-clause-some g c =
    let e = divisor_degree g (goal.at.cancel-quotient-requires-clause-some g c).After-padded-remainder in
    omega (arith, e.2, ap length c.coeffs-b.ensures.value)

pub cancel-quotient-requires-clause-leads : goal.cancel-quotient-requires-clause-leads
cancel-quotient-requires-clause-leads g c =
    let e = divisor_degree g (goal.at.cancel-quotient-requires-clause-leads g c).After-padded-remainder in
    subst (λ l. 0 < slice_index l (length l - 1)) (sym c.coeffs-b.ensures.value)
    (last_coefficient c.args.b.now c.coeffs-b.ensures.no_zero_at_end (omega (arith, e.2)))

pub cancel-quotient-requires-clause-remainder_of_field : goal.cancel-quotient-requires-clause-remainder_of_field
cancel-quotient-requires-clause-remainder_of_field g c =
    IsOver-same c.args.field.now.degree c.args.a.now c.padded-remainder.result
    (SamePolynomial-sym c.padded-remainder.result c.args.a.now (padded_same g (goal.at.cancel-quotient-requires-clause-remainder_of_field g c).After-padded-remainder))
    c.requires.of_field

pub returns-clause-value : goal.returns-clause-value
returns-clause-value g c =
    let f = c.args.field.now in
    let start = c.padded-remainder.result in
    let remainder = c.cancel-quotient.new.remainder in
    let e = divisor_degree g (goal.at.returns-clause-value g c).After-padded-remainder in
    right_quotient_from f c.cancel-quotient.ensures.field.modulus.low_below c.args.a.now c.args.b.now c.from_slice.result c.from_slice-2.result
    start c.cancel-quotient.result remainder e.0 e.1 (padded_same g (goal.at.returns-clause-value g c).After-padded-remainder)
    c.from_slice.ensures.value c.from_slice-2.ensures.value
    (subst (λ (l : List ℕ). (n : ℕ) → slice_index start n ≡ bit_xor (composed f (slice_index c.cancel-quotient.result) (slice_index l) n) (slice_index remainder n))
    c.coeffs-b.ensures.value c.cancel-quotient.ensures.sum)
    (λ n past. c.cancel-quotient.ensures.ends n (omega (arith, e.2, past, ap length c.coeffs-b.ensures.value)))

pub returns-clause-cost : goal.returns-clause-cost
returns-clause-cost g c =
    let f = c.args.field.now in
    let n = length c.args.a.now in
    let k = length c.args.b.now in
    let places = c.saturating_sub-places.result in
    let e = divisor_degree g (goal.at.returns-clause-cost g c).After-padded-remainder in
    let some : 1 ≤ k = omega (arith, e.2) in
    let few : places ≤ n = omega (arith, c.saturating_sub-places.ensures, some, ap length c.coeffs-a.ensures.value, ap length c.coeffs-b.ensures.value) in
    let paid = subst (λ (l : List ℕ). c.cancel-quotient.new.steps ≤ c.args.steps.now + places * (2 * f.degree + places * (length l + 1)))
    c.coeffs-b.ensures.value c.cancel-quotient.ensures.cost in
    omega (arith, paid, right_cost f.degree n k places some few)

pub returns-clause-quotient_len : goal.returns-clause-quotient_len
returns-clause-quotient_len g c =
    let f = c.args.field.now in
    let modulus = c.cancel-quotient.ensures.field in
    let q = c.from_slice.result in
    let e = divisor_degree g (goal.at.returns-clause-quotient_len g c).After-padded-remainder in
    let a_trimmed = c.coeffs-a.ensures.no_zero_at_end in
    let q_trimmed : trimmed q ≡ q = ap trimmed c.from_slice.ensures.value ∙ trimmed-trimmed c.cancel-quotient.result ∙ sym c.from_slice.ensures.value in
    let over = c.from_slice.ensures.of_field f.degree c.cancel-quotient.ensures.quotient_of_field in
    length-right_quotient f modulus.modulus.low_below modulus.irreducible c.args.a.now c.args.b.now q c.from_slice-2.result e.0
    a_trimmed q_trimmed e.1 e.2 c.requires.b_of_field over (returns-clause-value g c)

pub returns-clause-remainder_len : goal.returns-clause-remainder_len
returns-clause-remainder_len g c =
    let r = c.from_slice-2.result in
    let e = divisor_degree g (goal.at.returns-clause-remainder_len g c).After-padded-remainder in
    let r_trimmed : trimmed r ≡ r = ap trimmed c.from_slice-2.ensures.value ∙ trimmed-trimmed c.cancel-quotient.new.remainder ∙ sym c.from_slice-2.ensures.value in
    length-remainder r c.args.b.now e.0 r_trimmed e.1 e.2 (returns-clause-value g c).remainder
