-- Sums, multiples and squares of the same polynomials are the same polynomial; the laws of sums.
use Rattle.std.proofs.Common.{◌≡◌, ℕ, zero, suc, ◌^◌, ◌<◌, List, [], bit_xor, refl, sym, ap, ◌∙◌}
use Rattle.std.specs.Prelude.{slice_index}
use Rattle.std.specs.Int.Bits.{xor_zero_r, xor_assoc, xor_comm, xor_self}
use Rattle.kk_field.specs.Field.{Modulus, field_product}
use Rattle.kk_field.proofs.Sums.{same_from_xor_zero}
use Rattle.kk_field.proofs.Residues.{field_product-xor}
use Rattle.kk_linpoly.specs.LinPoly.{SamePolynomial, sum_of, scaled, squared_up}
use Rattle.kk_linpoly.proofs.Coefficients.{slice_index-sum_of, slice_index-scaled, slice_index-squares}

pub sum_of_comm : (cs ds : List ℕ) → SamePolynomial (sum_of cs ds) (sum_of ds cs)
sum_of_comm cs ds = record {
  coefficients = λ i. slice_index-sum_of cs ds i ∙ xor_comm (slice_index cs i) (slice_index ds i) ∙ sym (slice_index-sum_of ds cs i);
}

pub sum_of_assoc : (cs ds es : List ℕ) → SamePolynomial (sum_of (sum_of cs ds) es) (sum_of cs (sum_of ds es))
sum_of_assoc cs ds es = record {
  coefficients = λ i.
      slice_index-sum_of (sum_of cs ds) es i ∙ ap (λ x. bit_xor x (slice_index es i)) (slice_index-sum_of cs ds i)
      ∙ xor_assoc (slice_index cs i) (slice_index ds i) (slice_index es i)
      ∙ ap (bit_xor (slice_index cs i)) (sym (slice_index-sum_of ds es i)) ∙ sym (slice_index-sum_of cs (sum_of ds es) i);
}

-- each polynomial is its own negative
pub sum_of-itself : (cs : List ℕ) → SamePolynomial (sum_of cs cs) []
sum_of-itself cs = record { coefficients = λ i. slice_index-sum_of cs cs i ∙ xor_self (slice_index cs i) }

pub sum_of-nil : (cs : List ℕ) → SamePolynomial (sum_of cs []) cs
sum_of-nil cs = record { coefficients = λ i. slice_index-sum_of cs [] i ∙ xor_zero_r (slice_index cs i) }

pub same_from_zero_sum : (cs ds : List ℕ) → SamePolynomial (sum_of cs ds) [] → SamePolynomial cs ds
same_from_zero_sum cs ds h = record {
  coefficients = λ i. same_from_xor_zero (slice_index cs i) (slice_index ds i) (sym (slice_index-sum_of cs ds i) ∙ h.coefficients i);
}

module _ (f : Modulus) (h : f.low < 2 ^ f.degree) where
  pub SamePolynomial-scaled : (a : ℕ) (cs ds : List ℕ) → SamePolynomial cs ds → SamePolynomial (scaled f a cs) (scaled f a ds)
  SamePolynomial-scaled a cs ds same = record {
    coefficients = λ i. slice_index-scaled f h a cs i ∙ ap (field_product f a) (same.coefficients i) ∙ sym (slice_index-scaled f h a ds i);
  }

  pub SamePolynomial-squared_up : (cs ds : List ℕ) → SamePolynomial cs ds → SamePolynomial (squared_up f cs) (squared_up f ds)
  SamePolynomial-squared_up cs ds same = record { coefficients = places }
    where
      places : (i : ℕ) → slice_index (squared_up f cs) i ≡ slice_index (squared_up f ds) i
      places zero = refl
      places (suc i) =
          slice_index-squares f h cs i ∙ ap (λ x. field_product f x x) (same.coefficients i) ∙ sym (slice_index-squares f h ds i)

  pub scaled-sum_of : (a : ℕ) (cs ds : List ℕ) → SamePolynomial (scaled f a (sum_of cs ds)) (sum_of (scaled f a cs) (scaled f a ds))
  scaled-sum_of a cs ds = record {
    coefficients = λ i.
        slice_index-scaled f h a (sum_of cs ds) i ∙ ap (field_product f a) (slice_index-sum_of cs ds i)
        ∙ field_product-xor f h a (slice_index cs i) (slice_index ds i)
        ∙ ap (λ x. bit_xor x (field_product f a (slice_index ds i))) (sym (slice_index-scaled f h a cs i))
        ∙ ap (bit_xor (slice_index (scaled f a cs) i)) (sym (slice_index-scaled f h a ds i))
        ∙ sym (slice_index-sum_of (scaled f a cs) (scaled f a ds) i);
  }
