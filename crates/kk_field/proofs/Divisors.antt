-- Divisors of polynomials, and Bezout's identity.
use Rattle.std.proofs.Common.{◌≡◌, ℕ, zero, suc, ◌^◌, ◌<◌, ◌≤◌, ◌⊎◌, bit_xor, refl, sym, ap, ◌∙◌, arith, subst, inl, inr}
use Rattle.std.proofs.lemmas.Bool.{cases_lt}
use Rattle.std.specs.Int.Bits.{xor_zero_r, xor_comm}
use Rattle.kk_field.proofs.Products.{products, product-xor, product_comm, product_assoc, product-one, one-product, product-zero, zero-product}
use Rattle.kk_field.proofs.Degrees.{degree_of, product-at_least, product_cancel}
use Rattle.kk_field.proofs.Remainders.{remainder-is}
use Rattle.kk_field.specs.Polynomial.{product, remainder, IsIrreducible}

-- d is a factor of a
pub record Divides (d a : ℕ) : Type 0 where
  pub quotient : ℕ
  pub is : product d quotient ≡ a

pub Divides-refl : (a : ℕ) → Divides a a
Divides-refl a = record { quotient = 1; is = product-one a }

pub Divides-zero : (a : ℕ) → Divides a 0
Divides-zero a = record { quotient = 0; is = product-zero a }

pub Divides-product : (d a b : ℕ) → Divides d a → Divides d (product a b)
Divides-product d a b h = record { quotient = product h.quotient b; is = sym (product_assoc d h.quotient b) ∙ ap (λ x. product x b) h.is }

pub Divides-xor : (d a b : ℕ) → Divides d a → Divides d b → Divides d (bit_xor a b)
Divides-xor d a b h k =
    record { quotient = bit_xor h.quotient k.quotient; is = product-xor d h.quotient k.quotient ∙ rw (h.is, k.is) refl }

-- a factor of both a and b that is a combination of them
pub record IsGcd (a b g : ℕ) : Type 0 where
  pub left : Divides g a
  pub right : Divides g b
  pub times_a : ℕ
  pub times_b : ℕ
  pub combination : g ≡ bit_xor (product times_a a) (product times_b b)

carried : (a b q r u v : ℕ) → a ≡ bit_xor (product b q) r
    → bit_xor (product u b) (product v r) ≡ bit_xor (product v a) (product (bit_xor u (product v q)) b)
carried a b q r u v e = rw e (simp products (xor_comm (product b u) (product r v)))

-- one step of Euclid's algorithm, at a ≡ b·q + r
gcd_step : (a b q r g : ℕ) → a ≡ bit_xor (product b q) r → IsGcd b r g → IsGcd a b g
gcd_step a b q r g e h = record {
  left = subst (Divides g) (sym e) (Divides-xor g (product b q) r (Divides-product g b q h.left) h.right);
  right = h.left;
  times_a = h.times_b;
  times_b = bit_xor h.times_a (product h.times_b q);
  combination = h.combination ∙ carried a b q r h.times_a h.times_b e;
}

pub gcd : (n a b : ℕ) → b ≤ n → (g : ℕ) × IsGcd a b g
gcd zero a b h =
    let none : b ≡ 0 = omega arith in (
      a,
      record {
        left = Divides-refl a;
        right = subst (Divides a) (sym none) (Divides-zero a);
        times_a = 1;
        times_b = 0;
        combination = simp (one-product, zero-product, xor_zero_r);
      },
    )
gcd (suc n) a b h =
    elim (cases_lt 0 b) [
      | inl more ↦
          let m = degree_of b more in
          let r = remainder-is m.0 b m.1 a in
          let below : remainder m.0 b a ≤ n = omega (arith, r.below, m.1.at_least) in
          let rest = gcd n b (remainder m.0 b a) below in
          (rest.0, gcd_step a b r.quotient.0 (remainder m.0 b a) rest.0 r.quotient.1 rest.1)
      | inr none ↦ gcd n a b (omega arith)
    ]

-- Bezout's identity
pub bezout : (a b : ℕ) → (g : ℕ) × IsGcd a b g
bezout a b = gcd b a b (omega arith)

-- ---- irreducible polynomials

-- a factor whose cofactor is at most 1 is the whole
whole_factor : (d q p : ℕ) → q ≤ 1 → product d q ≡ p → 2 ≤ p → d ≡ p
whole_factor d q p small e h =
    elim (cases_lt 0 q) [
      | inl more ↦ let one : q ≡ 1 = omega arith in sym (product-one d) ∙ ap (product d) (sym one) ∙ e
      | inr less ↦ let none : q ≡ 0 = omega arith in
          let zero_p : p ≡ 0 = sym e ∙ ap (product d) none ∙ product-zero d in absurd (omega arith)
    ]

-- a factor of an irreducible polynomial is 1 or that polynomial
pub factors_of_irreducible : (p d : ℕ) → IsIrreducible p → Divides d p → (d ≡ 1) ⊎ (d ≡ p)
factors_of_irreducible p d irreducible h =
    elim (cases_lt 1 d) [
      | inl big ↦ elim (cases_lt 1 h.quotient) [
        | inl both ↦ absurd (irreducible.no_factors d h.quotient big both h.is)
        | inr small ↦ inr (whole_factor d h.quotient p small h.is irreducible.at_least_two)
      ]
      | inr small ↦
          let other : h.quotient ≡ p = whole_factor h.quotient d p small (product_comm h.quotient d ∙ h.is) irreducible.at_least_two in
          inl (product_cancel p d 1 (omega (arith, irreducible.at_least_two))
          (product_comm p d ∙ ap (product d) (sym other) ∙ h.is ∙ sym (product-one p)))
    ]

-- a number below 2^m that p, of degree m, divides is 0
pub small_multiple : (m p a : ℕ) → 2 ^ m ≤ p → a < 2 ^ m → Divides p a → a ≡ 0
small_multiple m p a least below h =
    elim (cases_lt 0 h.quotient) [
      | inl more ↦ absurd (omega (arith, product-at_least m p h.quotient least more, h.is))
      | inr less ↦ let none : h.quotient ≡ 0 = omega arith in sym h.is ∙ ap (product p) none ∙ product-zero p
    ]

-- an irreducible p has no common factor with a lower polynomial but 0
pub coprime : (m p a : ℕ) → IsIrreducible p → 2 ^ m ≤ p → a < 2 ^ m → 0 < a
    → (u : ℕ) × (v : ℕ) × (1 ≡ bit_xor (product u a) (product v p))
coprime m p a irreducible least below positive =
    let g = bezout a p in
    elim (factors_of_irreducible p g.0 irreducible g.1.right) [
      | inl one ↦ (g.1.times_a, g.1.times_b, sym one ∙ g.1.combination)
      | inr whole ↦ absurd (omega (arith, small_multiple m p a least below (subst (λ d. Divides d a) whole g.1.left)))
    ]
