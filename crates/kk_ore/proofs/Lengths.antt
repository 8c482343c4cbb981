-- How many coefficients a quotient and a remainder have.
use Rattle.std.proofs.Common.{◌≡◌, ℕ, suc, ◌+◌, ◌-◌, ◌^◌, ◌<◌, ◌≤◌, List, Some, length, bit_xor, sym, ap, ◌∙◌, subst, arith, inl, inr, add_comm}
use Rattle.std.specs.Prelude.{slice_index}
use Rattle.kk_field.specs.Polynomial.{IsIrreducible}
use Rattle.kk_field.specs.Field.{Modulus, polynomial}
use Rattle.kk_linpoly.specs.LinPoly.{SamePolynomial, IsOver, trimmed, degree, sum_of, composition}
use Rattle.kk_linpoly.proofs.Trimmed.{length-trimmed_of_degree, trimmed-zeros}
use Rattle.kk_linpoly.proofs.Coefficients.{slice_index-composition, slice_index-sum_of}
use Rattle.kk_linpoly.proofs.DegreeLaws.{Leads, degree-leads, leads_or_zero, leads_from_degree, Leads-sum_of_left, Leads-composition}
use Rattle.kk_ore.specs.Division.{IsBelow, IsLeftQuotient, IsRightQuotient}
use Rattle.kk_ore.proofs.Below.{coefficient-below, length-trimmed_past}
use Rattle.kk_ore.proofs.Terms.{composed-none_right, composed-none_left}

Leads-same : (a c : List ℕ) (e : ℕ) → SamePolynomial a c → Leads c e → Leads a e
Leads-same a c e same leads = record {
  leading = λ none. leads.leading (sym (same.coefficients e) ∙ none);
  past = λ i more. same.coefficients i ∙ leads.past i more;
}

length_of_leads : (cs : List ℕ) (e : ℕ) → trimmed cs ≡ cs → Leads cs e → length cs ≡ suc e
length_of_leads cs e is_trimmed leads = ap length (sym is_trimmed) ∙ length-trimmed_of_degree cs e (degree-leads cs e leads)

length_of_zero : (cs : List ℕ) → trimmed cs ≡ cs → ((i : ℕ) → slice_index cs i ≡ 0) → length cs ≡ 0
length_of_zero cs is_trimmed none = ap length (sym is_trimmed ∙ trimmed-zeros cs none)

-- the sum of a product and a remainder below the divisor
from_parts : (a product q r b : List ℕ) (e : ℕ) → trimmed a ≡ a → trimmed q ≡ q → degree b ≡ Some e → length b ≡ suc e
    → SamePolynomial a (sum_of product r) → IsBelow r b
    → ((d : ℕ) → Leads q d → Leads product (e + d)) → (((i : ℕ) → slice_index q i ≡ 0) → (n : ℕ) → slice_index product n ≡ 0)
    → length q ≡ length a + 1 - length b
from_parts a product q r b e a_trimmed q_trimmed b_degree b_long sum below leading zero =
    let past : (n : ℕ) → e ≤ n → slice_index r n ≡ 0 = coefficient-below r b e below b_degree in
    elim (leads_or_zero q) [
      | inl w ↦
          let whole : Leads a (e + w.0) =
          Leads-same a (sum_of product r) (e + w.0) sum
          (Leads-sum_of_left product r (e + w.0) (leading w.0 w.1) (λ i from. past i (omega (arith, from)))) in
          omega (arith, length_of_leads a (e + w.0) a_trimmed whole, length_of_leads q w.0 q_trimmed w.1, b_long)
      | inr none ↦
          let ends : (n : ℕ) → e ≤ n → slice_index a n ≡ 0 =
          λ n from. sum.coefficients n ∙ slice_index-sum_of product r n ∙ ap (λ x. bit_xor x (slice_index r n)) (zero none n)
          ∙ ap (bit_xor 0) (past n from) in
          omega (arith, length_of_zero q q_trimmed none, ap length (sym a_trimmed), length-trimmed_past a e ends, b_long)
    ]

module _ (f : Modulus) (h : f.low < 2 ^ f.degree) (irreducible : IsIrreducible (polynomial f)) where
  pub length-left_quotient : (a b q r : List ℕ) (e : ℕ) → trimmed a ≡ a → trimmed q ≡ q → degree b ≡ Some e → length b ≡ suc e
      → IsOver f.degree b → IsOver f.degree q → IsLeftQuotient f a b q r → length q ≡ length a + 1 - length b
  length-left_quotient a b q r e a_trimmed q_trimmed b_degree b_long b_over q_over quotient =
      from_parts a (composition f b q) q r b e a_trimmed q_trimmed b_degree b_long quotient.sum quotient.remainder
      (λ d leads. Leads-composition f h irreducible b q e d b_over q_over (leads_from_degree b e b_degree) leads)
      (λ none n. slice_index-composition f h b q n ∙ composed-none_right f h (slice_index b) (slice_index q) none n)

  pub length-right_quotient : (a b q r : List ℕ) (e : ℕ) → trimmed a ≡ a → trimmed q ≡ q → degree b ≡ Some e → length b ≡ suc e
      → IsOver f.degree b → IsOver f.degree q → IsRightQuotient f a b q r → length q ≡ length a + 1 - length b
  length-right_quotient a b q r e a_trimmed q_trimmed b_degree b_long b_over q_over quotient =
      from_parts a (composition f q b) q r b e a_trimmed q_trimmed b_degree b_long quotient.sum quotient.remainder
      (λ d leads. subst (Leads (composition f q b)) (add_comm d e) (Leads-composition f h irreducible q b d e q_over b_over leads (leads_from_degree b e b_degree)))
      (λ none n. slice_index-composition f h q b n ∙ composed-none_left f h (slice_index q) (slice_index b) none n)

-- a remainder has fewer coefficients than the divisor
pub length-remainder : (r b : List ℕ) (e : ℕ) → trimmed r ≡ r → degree b ≡ Some e → length b ≡ suc e → IsBelow r b → length r < length b
length-remainder r b e r_trimmed b_degree b_long below =
    omega (arith, ap length (sym r_trimmed), length-trimmed_past r e (coefficient-below r b e below b_degree), b_long)
