-- From coefficients to quotients.
use Rattle.std.proofs.Common.{◌≡◌, ℕ, ◌^◌, ◌<◌, ◌≤◌, List, Some, bit_xor, refl, sym, ap, ◌∙◌}
use Rattle.std.specs.Prelude.{slice_index}
use Rattle.kk_field.specs.Field.{Modulus}
use Rattle.kk_linpoly.specs.LinPoly.{SamePolynomial, trimmed, degree, composition, composed}
use Rattle.kk_linpoly.proofs.Trimmed.{slice_index-trimmed}
use Rattle.kk_linpoly.proofs.Coefficients.{slice_index-sum_of, slice_index-composition}
use Rattle.kk_ore.specs.Division.{IsLeftQuotient, IsRightQuotient}
use Rattle.kk_ore.proofs.Terms.{composed-same}
use Rattle.kk_ore.proofs.Below.{IsBelow-from}

coefficient_of : (cs ds : List ℕ) → cs ≡ trimmed ds → (n : ℕ) → slice_index cs n ≡ slice_index ds n
coefficient_of cs ds e n = ap (λ l. slice_index l n) e ∙ slice_index-trimmed ds n

module _ (f : Modulus) (h : f.low < 2 ^ f.degree) where
  pub left_quotient_from : (a b q r start quotient remainder : List ℕ) (e : ℕ) → degree b ≡ Some e → SamePolynomial start a
      → q ≡ trimmed quotient → r ≡ trimmed remainder
      → ((n : ℕ) → slice_index start n ≡ bit_xor (composed f (slice_index b) (slice_index quotient) n) (slice_index remainder n))
      → ((n : ℕ) → e ≤ n → slice_index remainder n ≡ 0) → IsLeftQuotient f a b q r
  left_quotient_from a b q r start quotient remainder e b_degree same q_is r_is sum ends = record {
    sum = record {
      coefficients = λ n. sym (same.coefficients n) ∙ sum n
          ∙ ap (bit_xor (composed f (slice_index b) (slice_index quotient) n)) (sym (coefficient_of r remainder r_is n))
          ∙ ap (λ x. bit_xor x (slice_index r n))
          (sym (slice_index-composition f h b q n
          ∙ composed-same f (slice_index b) (slice_index b) (slice_index q) (slice_index quotient) (λ i. refl) (coefficient_of q quotient q_is) n))
          ∙ sym (slice_index-sum_of (composition f b q) r n);
    };
    remainder = IsBelow-from r b e b_degree (λ n past. coefficient_of r remainder r_is n ∙ ends n past);
  }

  pub right_quotient_from : (a b q r start quotient remainder : List ℕ) (e : ℕ) → degree b ≡ Some e → SamePolynomial start a
      → q ≡ trimmed quotient → r ≡ trimmed remainder
      → ((n : ℕ) → slice_index start n ≡ bit_xor (composed f (slice_index quotient) (slice_index b) n) (slice_index remainder n))
      → ((n : ℕ) → e ≤ n → slice_index remainder n ≡ 0) → IsRightQuotient f a b q r
  right_quotient_from a b q r start quotient remainder e b_degree same q_is r_is sum ends = record {
    sum = record {
      coefficients = λ n. sym (same.coefficients n) ∙ sum n
          ∙ ap (bit_xor (composed f (slice_index quotient) (slice_index b) n)) (sym (coefficient_of r remainder r_is n))
          ∙ ap (λ x. bit_xor x (slice_index r n))
          (sym (slice_index-composition f h q b n
          ∙ composed-same f (slice_index q) (slice_index quotient) (slice_index b) (slice_index b) (coefficient_of q quotient q_is) (λ j. refl) n))
          ∙ sym (slice_index-sum_of (composition f q b) r n);
    };
    remainder = IsBelow-from r b e b_degree (λ n past. coefficient_of r remainder r_is n ∙ ends n past);
  }
