-- Over a field a division has one quotient and one remainder: coefficient e + t of the product of the divisor, of degree e, and
-- the quotient tells coefficient t of the quotient by those above it.
use Rattle.std.proofs.Common.{◌≡◌, ◌≢◌, ℕ, zero, suc, ◌+◌, ◌-◌, ◌^◌, ◌<◌, ◌≤◌, List, Some, length, bit_xor, refl, sym, ap, ◌∙◌, subst, arith, inl, inr}
use Rattle.std.specs.Prelude.{slice_index, IsSome}
use Rattle.std.proofs.lemmas.Bool.{cases_lt}
use Rattle.std.proofs.lemmas.List.{get_or_past}
use Rattle.std.specs.Int.Bits.{xor_zero_r, xor_self}
use Rattle.kk_field.specs.Polynomial.{IsIrreducible}
use Rattle.kk_field.specs.Field.{Modulus, polynomial, field_product, frobenius}
use Rattle.kk_field.proofs.Sums.{same_from_xor_zero, xor_cancel}
use Rattle.kk_field.proofs.Residues.{field_product_comm, field_product-zero, zero-field_product, frobenius-zero, frobenius-below}
use Rattle.kk_field.proofs.Fields.{field_product_cancel, frobenius_injective}
use Rattle.std.proofs.Math.Pow.{pow_pos}
use Rattle.kk_linpoly.specs.LinPoly.{SamePolynomial, IsOver, degree, composition, composed, xor_sum}
use Rattle.kk_linpoly.proofs.XorSums.{xor_sum-xor, xor_sum-single}
use Rattle.kk_linpoly.proofs.Coefficients.{coefficient-lt, slice_index-sum_of, slice_index-composition}
use Rattle.kk_ore.specs.Division.{IsLeftQuotient, IsRightQuotient}
use Rattle.kk_ore.proofs.Terms.{composed-same}
use Rattle.kk_ore.proofs.Below.{degree_of, coefficient-below, coefficient_past_degree, leading_coefficient}

-- equal sums whose terms are equal but at one place
pub last_term : (p q : ℕ → ℕ) (n k : ℕ) → k < n → ((i : ℕ) → i < n → i ≢ k → p i ≡ q i) → xor_sum p n ≡ xor_sum q n → p k ≡ q k
last_term p q n k less others sums =
    same_from_xor_zero (p k) (q k)
    (sym (xor_sum-single (λ i. bit_xor (p i) (q i)) n k less (λ i below apart. ap (λ x. bit_xor x (q i)) (others i below apart) ∙ xor_self (q i)))
    ∙ xor_sum-xor p q n ∙ ap (λ x. bit_xor x (xor_sum q n)) sums ∙ xor_self (xor_sum q n))

-- from the top down
from_top : (q q' : ℕ → ℕ) (n : ℕ) → ((i : ℕ) → n ≤ i → q i ≡ q' i)
    → ((t : ℕ) → ((i : ℕ) → t < i → q i ≡ q' i) → q t ≡ q' t) → (t : ℕ) → q t ≡ q' t
from_top q q' zero above step t = above t (omega arith)
from_top q q' (suc n) above step t =
    from_top q q' n
    (λ i past. elim (cases_lt n i) [
      | inl more ↦ above i (omega arith)
      | inr less ↦ step i (λ j later. above j (omega arith))
    ])
    step t

-- the same sum and the same product leave the same remainder
same_remainder : (a whole whole' remainder remainder' : ℕ) → a ≡ bit_xor whole remainder → a ≡ bit_xor whole' remainder' → whole ≡ whole' → remainder ≡ remainder'
same_remainder a whole whole' remainder remainder' sum sum' same =
    sym (xor_cancel whole remainder) ∙ ap (bit_xor whole) (sym sum ∙ sum') ∙ ap (λ x. bit_xor x (bit_xor whole' remainder')) same ∙ xor_cancel whole' remainder'

-- nothing is left of a sum whose remainder is 0
whole_of : (a whole remainder : ℕ) → a ≡ bit_xor whole remainder → remainder ≡ 0 → whole ≡ a
whole_of a whole remainder sum none = sym (xor_zero_r whole) ∙ ap (bit_xor whole) (sym none) ∙ sym sum

-- past both ends there is nothing
same_past : (q q' : List ℕ) (i : ℕ) → length q + length q' ≤ i → slice_index q i ≡ slice_index q' i
same_past q q' i past = get_or_past q i 0 (omega arith) ∙ sym (get_or_past q' i 0 (omega arith))

module _ (f : Modulus) (h : f.low < 2 ^ f.degree) (irreducible : IsIrreducible (polynomial f)) where
  left_same_at : (b q q' : ℕ → ℕ) (e t : ℕ) → b e < 2 ^ f.degree → 0 < b e → ((i : ℕ) → e < i → b i ≡ 0)
      → q t < 2 ^ f.degree → q' t < 2 ^ f.degree → ((i : ℕ) → t < i → q i ≡ q' i)
      → composed f b q (e + t) ≡ composed f b q' (e + t) → q t ≡ q' t
  left_same_at b q q' e t below positive ends q_below q'_below above sums =
      let place : e + t - e ≡ t = omega arith in
      let at : field_product f (b e) (frobenius f e (q (e + t - e))) ≡ field_product f (b e) (frobenius f e (q' (e + t - e))) =
      last_term (λ i. field_product f (b i) (frobenius f i (q (e + t - i))))
      (λ i. field_product f (b i) (frobenius f i (q' (e + t - i)))) (suc (e + t)) e (omega arith) others sums in
      frobenius_injective f h irreducible e (q t) (q' t) q_below q'_below
      (field_product_cancel f h irreducible (b e) (frobenius f e (q t)) (frobenius f e (q' t)) below positive
      (frobenius-below f h e (q t) q_below) (frobenius-below f h e (q' t) q'_below)
      (subst (λ k. field_product f (b e) (frobenius f e (q k)) ≡ field_product f (b e) (frobenius f e (q' k))) place at))
    where
      others : (i : ℕ) → i < suc (e + t) → i ≢ e
          → field_product f (b i) (frobenius f i (q (e + t - i))) ≡ field_product f (b i) (frobenius f i (q' (e + t - i)))
      others i less apart =
          elim (cases_lt e i) [
            | inl later ↦
                ap (λ x. field_product f x (frobenius f i (q (e + t - i)))) (ends i later) ∙ zero-field_product f h (frobenius f i (q (e + t - i)))
                ∙ sym (ap (λ x. field_product f x (frobenius f i (q' (e + t - i)))) (ends i later) ∙ zero-field_product f h (frobenius f i (q' (e + t - i))))
            | inr earlier ↦ ap (λ x. field_product f (b i) (frobenius f i x)) (above (e + t - i) (past i earlier apart))
          ]
        where
          past : (i : ℕ) → i ≤ e → i ≢ e → t < e + t - i
          past i earlier apart = omega arith

  right_same_at : (b q q' : ℕ → ℕ) (e t : ℕ) → b e < 2 ^ f.degree → 0 < b e → ((i : ℕ) → e < i → b i ≡ 0)
      → q t < 2 ^ f.degree → q' t < 2 ^ f.degree → ((i : ℕ) → t < i → q i ≡ q' i)
      → composed f q b (e + t) ≡ composed f q' b (e + t) → q t ≡ q' t
  right_same_at b q q' e t below positive ends q_below q'_below above sums =
      let place : e + t - t ≡ e = omega arith in
      let at : field_product f (q t) (frobenius f t (b (e + t - t))) ≡ field_product f (q' t) (frobenius f t (b (e + t - t))) =
      last_term (λ i. field_product f (q i) (frobenius f i (b (e + t - i))))
      (λ i. field_product f (q' i) (frobenius f i (b (e + t - i)))) (suc (e + t)) t (omega arith) others sums in
      field_product_cancel f h irreducible (frobenius f t (b e)) (q t) (q' t) (frobenius-below f h t (b e) below) power_positive
      q_below q'_below
      (field_product_comm f h (frobenius f t (b e)) (q t)
      ∙ subst (λ k. field_product f (q t) (frobenius f t (b k)) ≡ field_product f (q' t) (frobenius f t (b k))) place at
      ∙ field_product_comm f h (q' t) (frobenius f t (b e)))
    where
      power_positive : 0 < frobenius f t (b e)
      power_positive =
          elim (cases_lt 0 (frobenius f t (b e))) [
            | inl more ↦ more
            | inr less ↦ let none : frobenius f t (b e) ≡ 0 = omega arith in
                absurd (omega (arith, frobenius_injective f h irreducible t (b e) 0 below (pow_pos f.degree) (none ∙ sym (frobenius-zero f h t))))
          ]

      nothing : (x i : ℕ) → b (e + t - i) ≡ 0 → field_product f x (frobenius f i (b (e + t - i))) ≡ 0
      nothing x i none =
          ap (λ y. field_product f x (frobenius f i y)) none ∙ ap (field_product f x) (frobenius-zero f h i) ∙ field_product-zero f h x

      others : (i : ℕ) → i < suc (e + t) → i ≢ t
          → field_product f (q i) (frobenius f i (b (e + t - i))) ≡ field_product f (q' i) (frobenius f i (b (e + t - i)))
      others i less apart =
          elim (cases_lt t i) [
            | inl later ↦ ap (λ x. field_product f x (frobenius f i (b (e + t - i)))) (above i later)
            | inr earlier ↦
                let none = ends (e + t - i) (past i earlier apart) in
                nothing (q i) i none ∙ sym (nothing (q' i) i none)
          ]
        where
          past : (i : ℕ) → i ≤ t → i ≢ t → e < e + t - i
          past i earlier apart = omega arith

  left_sum : (a b q r : List ℕ) → IsLeftQuotient f a b q r → (n : ℕ)
      → slice_index a n ≡ bit_xor (composed f (slice_index b) (slice_index q) n) (slice_index r n)
  left_sum a b q r x n =
      x.sum.coefficients n ∙ slice_index-sum_of (composition f b q) r n
      ∙ ap (λ y. bit_xor y (slice_index r n)) (slice_index-composition f h b q n)

  right_sum : (a b q r : List ℕ) → IsRightQuotient f a b q r → (n : ℕ)
      → slice_index a n ≡ bit_xor (composed f (slice_index q) (slice_index b) n) (slice_index r n)
  right_sum a b q r x n =
      x.sum.coefficients n ∙ slice_index-sum_of (composition f q b) r n
      ∙ ap (λ y. bit_xor y (slice_index r n)) (slice_index-composition f h q b n)

  pub left_quotient_unique : (a b q r q' r' : List ℕ) → IsOver f.degree b → IsSome (degree b) → IsOver f.degree q → IsOver f.degree q'
      → IsLeftQuotient f a b q r → IsLeftQuotient f a b q' r' → SamePolynomial q q' × SamePolynomial r r'
  left_quotient_unique a b q r q' r' b_over some q_over q'_over x x' =
      let e : (e : ℕ) × (degree b ≡ Some e) = degree_of b some in
      let whole = λ (t : ℕ). whole_of (slice_index a (e.0 + t)) (composed f (slice_index b) (slice_index q) (e.0 + t)) (slice_index r (e.0 + t))
      (left_sum a b q r x (e.0 + t)) (coefficient-below r b e.0 x.remainder e.1 (e.0 + t) (omega arith)) in
      let whole' = λ (t : ℕ). whole_of (slice_index a (e.0 + t)) (composed f (slice_index b) (slice_index q') (e.0 + t)) (slice_index r' (e.0 + t))
      (left_sum a b q' r' x' (e.0 + t)) (coefficient-below r' b e.0 x'.remainder e.1 (e.0 + t) (omega arith)) in
      let same : (t : ℕ) → slice_index q t ≡ slice_index q' t =
      from_top (slice_index q) (slice_index q') (length q + length q') (same_past q q')
      (λ t above. left_same_at (slice_index b) (slice_index q) (slice_index q') e.0 t (coefficient-lt f.degree b b_over e.0)
      (leading_coefficient b e.0 e.1) (coefficient_past_degree b e.0 e.1) (coefficient-lt f.degree q q_over t)
      (coefficient-lt f.degree q' q'_over t) above (whole t ∙ sym (whole' t))) in (
        record { coefficients = same },
        record {
          coefficients = λ n. same_remainder (slice_index a n) (composed f (slice_index b) (slice_index q) n)
              (composed f (slice_index b) (slice_index q') n) (slice_index r n) (slice_index r' n) (left_sum a b q r x n) (left_sum a b q' r' x' n)
              (composed-same f (slice_index b) (slice_index b) (slice_index q) (slice_index q') (λ i. refl) same n);
        },
      )

  pub right_quotient_unique : (a b q r q' r' : List ℕ) → IsOver f.degree b → IsSome (degree b) → IsOver f.degree q → IsOver f.degree q'
      → IsRightQuotient f a b q r → IsRightQuotient f a b q' r' → SamePolynomial q q' × SamePolynomial r r'
  right_quotient_unique a b q r q' r' b_over some q_over q'_over x x' =
      let e : (e : ℕ) × (degree b ≡ Some e) = degree_of b some in
      let whole = λ (t : ℕ). whole_of (slice_index a (e.0 + t)) (composed f (slice_index q) (slice_index b) (e.0 + t)) (slice_index r (e.0 + t))
      (right_sum a b q r x (e.0 + t)) (coefficient-below r b e.0 x.remainder e.1 (e.0 + t) (omega arith)) in
      let whole' = λ (t : ℕ). whole_of (slice_index a (e.0 + t)) (composed f (slice_index q') (slice_index b) (e.0 + t)) (slice_index r' (e.0 + t))
      (right_sum a b q' r' x' (e.0 + t)) (coefficient-below r' b e.0 x'.remainder e.1 (e.0 + t) (omega arith)) in
      let same : (t : ℕ) → slice_index q t ≡ slice_index q' t =
      from_top (slice_index q) (slice_index q') (length q + length q') (same_past q q')
      (λ t above. right_same_at (slice_index b) (slice_index q) (slice_index q') e.0 t (coefficient-lt f.degree b b_over e.0)
      (leading_coefficient b e.0 e.1) (coefficient_past_degree b e.0 e.1) (coefficient-lt f.degree q q_over t)
      (coefficient-lt f.degree q' q'_over t) above (whole t ∙ sym (whole' t))) in (
        record { coefficients = same },
        record {
          coefficients = λ n. same_remainder (slice_index a n) (composed f (slice_index q) (slice_index b) n)
              (composed f (slice_index q') (slice_index b) n) (slice_index r n) (slice_index r' n) (right_sum a b q r x n) (right_sum a b q' r' x' n)
              (composed-same f (slice_index q) (slice_index q') (slice_index b) (slice_index b) same (λ j. refl) n);
        },
      )
