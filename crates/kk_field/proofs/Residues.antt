-- Residues modulo X^m + low: the laws of `field_product`, and what the loop of a multiplication keeps.
use Rattle.std.proofs.Common.{◌≡◌, ◌≢◌, ℕ, zero, suc, ◌+◌, ◌*◌, ◌/◌, ◌^◌, ◌<◌, ◌≤◌, bit_xor, bit_and, refl, sym, ap, ◌∙◌, arith, inl, inr}
use Rattle.std.proofs.Math.Nat.{pow-suc, mul-one, one-mul, zero-mul, mul_assoc, zero-add, suc-add}
use Rattle.std.proofs.Math.Pow.{pow_mono}
use Rattle.std.proofs.Math.Numerals.{add-one}
use Rattle.std.specs.Int.Bits.{xor_zero_r}
use Rattle.std.specs.Int.{bit_at}
use Rattle.std.proofs.lemmas.Nat.Bits.{shr_and_one}
use Rattle.kk_field.proofs.Sums.{digit_cases}
use Rattle.kk_field.proofs.Products.{square-xor, product_below-product, product-zero, product-one, product_comm, product_assoc, product-xor, xor-product}
use Rattle.kk_field.proofs.Degrees.{HasDegree}
use Rattle.kk_field.proofs.Remainders.{HasDegree-modulus, remainder-below, remainder-small, remainder-xor, remainder-zero, remainder-product_left, remainder-product_right, product-two}
use Rattle.kk_field.specs.Polynomial.{product, product_below}
use Rattle.kk_field.specs.Field.{Modulus, polynomial, residue, field_product, frobenius}

-- 1 is a residue
pub one_small : (m : ℕ) → 1 ≤ m → 1 < 2 ^ m
one_small m least = let power : 2 ^ 1 ≤ 2 ^ m = pow_mono least in omega (arith, power)

module _ (f : Modulus) (h : f.low < 2 ^ f.degree) where
  degree : HasDegree (polynomial f) f.degree
  degree = HasDegree-modulus f.degree f.low h

  -- ---- the loop of a multiplication: the sum of the terms below place i, and the term of place i

  pub sum_none : (a b : ℕ) → 0 ≡ residue f (product_below a b 0)
  unfolding product_below
  sum_none a b = sym (remainder-zero f.degree (polynomial f) degree)

  pub sum_more : (a b i s t : ℕ) → s ≡ residue f (product_below a b i) → t ≡ residue f (a * 2 ^ i) → bit_and (b / 2 ^ i) 1 ≡ 1
      → bit_xor s t ≡ residue f (product_below a b (i + 1))
  unfolding product_below
  sum_more a b i s t es et bit =
      let one : bit_at b i ≡ 1 = sym (shr_and_one b i) ∙ bit in
      rw (add-one i, es, et)
      (sym (ap (λ c. residue f (bit_xor (product_below a b i) (c * (a * 2 ^ i)))) one
      ∙ ap (λ x. residue f (bit_xor (product_below a b i) x)) (one-mul (a * 2 ^ i))
      ∙ remainder-xor f.degree (polynomial f) degree (product_below a b i) (a * 2 ^ i)))

  pub sum_same : (a b i s : ℕ) → s ≡ residue f (product_below a b i) → bit_and (b / 2 ^ i) 1 ≢ 1
      → s ≡ residue f (product_below a b (i + 1))
  unfolding product_below
  sum_same a b i s es bit =
      let none : bit_at b i ≡ 0 = elim (digit_cases (b / 2 ^ i)) [ inl e ↦ e | inr e ↦ absurd (bit (shr_and_one b i ∙ e)) ] in
      rw (add-one i)
      (es ∙ sym (ap (λ c. residue f (bit_xor (product_below a b i) (c * (a * 2 ^ i)))) none
      ∙ ap (λ x. residue f (bit_xor (product_below a b i) x)) (zero-mul (a * 2 ^ i))
      ∙ ap (residue f) (xor_zero_r (product_below a b i))))

  pub sum_all : (a b : ℕ) → b < 2 ^ f.degree → residue f (product_below a b f.degree) ≡ field_product f a b
  unfolding field_product
  sum_all a b hb = ap (residue f) (product_below-product a b f.degree hb)

  pub term_first : (a : ℕ) → a < 2 ^ f.degree → a ≡ residue f (a * 2 ^ 0)
  term_first a ha = rw (mul-one a) (sym (remainder-small f.degree (polynomial f) degree a ha))

  pub term_next : (a i t : ℕ) → t ≡ residue f (a * 2 ^ i) → field_product f t 2 ≡ residue f (a * 2 ^ (i + 1))
  unfolding field_product
  term_next a i t et =
      rw (et, add-one i, pow-suc 2 i)
      (remainder-product_left f.degree (polynomial f) degree (a * 2 ^ i) 2
      ∙ ap (residue f) (product-two (a * 2 ^ i) ∙ mul_assoc a (2 ^ i) 2))

  pub residue-below : (a : ℕ) → residue f a < 2 ^ f.degree
  residue-below a = remainder-below f.degree (polynomial f) degree a

  -- ---- a commutative ring

  pub field_product-below : (a b : ℕ) → field_product f a b < 2 ^ f.degree
  unfolding field_product
  field_product-below a b = residue-below (product a b)

  pub residue-small : (a : ℕ) → a < 2 ^ f.degree → residue f a ≡ a
  residue-small a ha = remainder-small f.degree (polynomial f) degree a ha

  pub residue-xor : (a b : ℕ) → residue f (bit_xor a b) ≡ bit_xor (residue f a) (residue f b)
  residue-xor a b = remainder-xor f.degree (polynomial f) degree a b

  pub field_product_comm : (a b : ℕ) → field_product f a b ≡ field_product f b a
  unfolding field_product
  field_product_comm a b = ap (residue f) (product_comm a b)

  -- a factor may be reduced first
  pub field_product-residue : (a b : ℕ) → field_product f a (residue f b) ≡ residue f (product a b)
  unfolding field_product
  field_product-residue a b = remainder-product_right f.degree (polynomial f) degree a b

  pub residue-field_product : (a b : ℕ) → field_product f (residue f a) b ≡ residue f (product a b)
  unfolding field_product
  residue-field_product a b = remainder-product_left f.degree (polynomial f) degree a b

  pub field_product-residues : (a b : ℕ) → field_product f (residue f a) (residue f b) ≡ residue f (product a b)
  unfolding field_product
  field_product-residues a b = residue-field_product a (residue f b) ∙ field_product-residue a b

  pub field_product_assoc : (a b c : ℕ) → field_product f (field_product f a b) c ≡ field_product f a (field_product f b c)
  unfolding field_product
  field_product_assoc a b c =
      residue-field_product (product a b) c ∙ ap (residue f) (product_assoc a b c) ∙ sym (field_product-residue a (product b c))

  pub field_product_left_comm : (a b c : ℕ) → field_product f a (field_product f b c) ≡ field_product f b (field_product f a c)
  field_product_left_comm a b c =
      sym (field_product_assoc a b c) ∙ ap (λ x. field_product f x c) (field_product_comm a b) ∙ field_product_assoc b a c

  pub field_product-xor : (a b c : ℕ) → field_product f a (bit_xor b c) ≡ bit_xor (field_product f a b) (field_product f a c)
  unfolding field_product
  field_product-xor a b c = ap (residue f) (product-xor a b c) ∙ residue-xor (product a b) (product a c)

  pub xor-field_product : (a b c : ℕ) → field_product f (bit_xor a b) c ≡ bit_xor (field_product f a c) (field_product f b c)
  unfolding field_product
  xor-field_product a b c = ap (residue f) (xor-product a b c) ∙ residue-xor (product a c) (product b c)

  pub field_product-zero : (a : ℕ) → field_product f a 0 ≡ 0
  unfolding field_product
  field_product-zero a = ap (residue f) (product-zero a) ∙ remainder-zero f.degree (polynomial f) degree

  pub zero-field_product : (a : ℕ) → field_product f 0 a ≡ 0
  zero-field_product a = field_product_comm 0 a ∙ field_product-zero a

  pub field_product-one : (a : ℕ) → a < 2 ^ f.degree → field_product f a 1 ≡ a
  unfolding field_product
  field_product-one a ha = ap (residue f) (product-one a) ∙ residue-small a ha

  pub one-field_product : (a : ℕ) → a < 2 ^ f.degree → field_product f 1 a ≡ a
  one-field_product a ha = field_product_comm 1 a ∙ field_product-one a ha

  pub field_product_swap : (a b c d : ℕ)
      → field_product f (field_product f a b) (field_product f c d) ≡ field_product f (field_product f a c) (field_product f b d)
  field_product_swap a b c d =
      field_product_assoc a b (field_product f c d)
      ∙ ap (field_product f a) (field_product_left_comm b c d)
      ∙ sym (field_product_assoc a c (field_product f b d))

  -- ---- the Frobenius map

  pub square-xor_residues : (a b : ℕ) → field_product f (bit_xor a b) (bit_xor a b) ≡ bit_xor (field_product f a a) (field_product f b b)
  unfolding field_product
  square-xor_residues a b = ap (residue f) (square-xor a b) ∙ residue-xor (product a a) (product b b)

  pub frobenius-below : (i a : ℕ) → a < 2 ^ f.degree → frobenius f i a < 2 ^ f.degree
  unfolding frobenius
  frobenius-below zero a ha = ha
  frobenius-below (suc i) a ha = field_product-below (frobenius f i a) (frobenius f i a)

  pub frobenius-xor : (i a b : ℕ) → frobenius f i (bit_xor a b) ≡ bit_xor (frobenius f i a) (frobenius f i b)
  unfolding frobenius
  frobenius-xor zero a b = refl
  frobenius-xor (suc i) a b =
      ap (λ x. field_product f x x) (frobenius-xor i a b) ∙ square-xor_residues (frobenius f i a) (frobenius f i b)

  pub frobenius-field_product : (i a b : ℕ) → frobenius f i (field_product f a b) ≡ field_product f (frobenius f i a) (frobenius f i b)
  unfolding frobenius
  frobenius-field_product zero a b = refl
  frobenius-field_product (suc i) a b =
      ap (λ x. field_product f x x) (frobenius-field_product i a b)
      ∙ field_product_swap (frobenius f i a) (frobenius f i b) (frobenius f i a) (frobenius f i b)

  pub frobenius-zero : (i : ℕ) → frobenius f i 0 ≡ 0
  unfolding frobenius
  frobenius-zero zero = refl
  frobenius-zero (suc i) = ap (λ x. field_product f x x) (frobenius-zero i) ∙ field_product-zero 0

  pub frobenius-one : 1 < 2 ^ f.degree → (i : ℕ) → frobenius f i 1 ≡ 1
  unfolding frobenius
  frobenius-one h1 zero = refl
  frobenius-one h1 (suc i) = ap (λ x. field_product f x x) (frobenius-one h1 i) ∙ field_product-one 1 h1

  pub frobenius-add : (i j a : ℕ) → frobenius f (i + j) a ≡ frobenius f i (frobenius f j a)
  unfolding frobenius
  frobenius-add zero j a = ap (λ k. frobenius f k a) (zero-add j)
  frobenius-add (suc i) j a =
      ap (λ k. frobenius f k a) (suc-add i j) ∙ ap (λ x. field_product f x x) (frobenius-add i j a)
