-- Remainders by a polynomial p of degree m: there is one, and it is linear.
use Rattle.std.proofs.Common.{◌≡◌, ℕ, zero, suc, ◌+◌, ◌-◌, ◌*◌, ◌/◌, ◌%◌, ◌^◌, ◌<◌, ◌≤◌, bit_xor, refl, sym, ap, ◌∙◌, arith, inl, inr}
use Rattle.std.proofs.Math.Nat.{pow-suc, zero-mul, one-mul, add-zero, add-suc, mul-le-mul_right, mul-lt-mul_of_pos_right}
use Rattle.std.proofs.Math.Pow.{pow_pos, pow_mono, pow-add}
use Rattle.std.proofs.lemmas.Bool.{cases_lt}
use Rattle.std.specs.Int.Bits.{xor_zero_r, xor_lt, xor_shifted}
use Rattle.std.specs.Int.{bit_at}
use Rattle.std.proofs.lemmas.Nat.Bits.{bit_at_above}
use Rattle.std.proofs.lemmas.Nat.{shr_high}
use Rattle.kk_field.proofs.Sums.{sums, move_right, digit_cases, xor_xor_swap, same_from_xor_zero}
use Rattle.kk_field.proofs.Products.{product-pow, product-one, below_own_power, product-xor, product-zero, product_comm, product_left_comm}
use Rattle.kk_field.proofs.Degrees.{HasDegree, xor_top, product-at_least}
use Rattle.kk_field.specs.Polynomial.{product, remainder, remainder_below, IsRemainder}

-- ---- one step of the long division

-- a below 2^(k+1) has place k where it is not below 2^k
top_digit : (k a : ℕ) → a < 2 ^ suc k → 2 ^ k ≤ a → bit_at a k ≡ 1
top_digit k a below least =
    let r : (r : ℕ) × (a ≡ 1 * 2 ^ k + r) × (r < 2 ^ k) = (a - 2 ^ k, omega (arith, least), omega (arith, least, below, pow-suc 2 k)) in
    rw r.1 (ap (λ x. x % 2) (shr_high 1 k r.0 r.2))

HasDegree-shl : (p m n : ℕ) → HasDegree p m → HasDegree (p * 2 ^ n) (m + n)
HasDegree-shl p m n d =
    let next : suc (m + n) ≡ suc m + n = omega arith in
    record {
      at_least = rw (pow-add 2 m n) (mul-le-mul_right (2 ^ n) d.at_least);
      below = rw (next, pow-add 2 (suc m) n) (mul-lt-mul_of_pos_right d.below (pow_pos n));
    }

-- the digit at place m + n is cancelled
step_below : (m p a n : ℕ) → HasDegree p m → a < 2 ^ (m + suc n) → bit_xor a (bit_at a (m + n) * (p * 2 ^ n)) < 2 ^ (m + n)
step_below m p a n d h =
    let below : a < 2 ^ suc (m + n) = rw (← (add-suc m n)) h in
    elim (cases_lt a (2 ^ (m + n))) [
      | inl low ↦ rw (bit_at_above a (m + n) (m + n) low (omega arith), zero-mul (p * 2 ^ n), xor_zero_r a) low
      | inr high ↦ rw (top_digit (m + n) a below high, one-mul (p * 2 ^ n))
          (xor_top (m + n) a (p * 2 ^ n) (record { at_least = high; below = below }) (HasDegree-shl p m n d))
    ]

digit-pow : (a k p n : ℕ) → bit_at a k * (p * 2 ^ n) ≡ product p (bit_at a k * 2 ^ n)
digit-pow a k p n =
    elim (digit_cases (a / 2 ^ k)) [
      | inl e ↦ rw e (simp (zero-mul, product-zero))
      | inr e ↦ rw e (simp one-mul (sym (product-pow p n)))
    ]

-- a term t that a division subtracted goes to the multiple
carry : (a t x r : ℕ) → bit_xor a t ≡ bit_xor x r → a ≡ bit_xor (bit_xor x t) r
carry a t x r e = move_right a t (bit_xor x r) e ∙ simp sums

-- two divisions of one number, and of a sum
two_ways : (a x y r s : ℕ) → a ≡ bit_xor x r → a ≡ bit_xor y s → bit_xor x y ≡ bit_xor r s
two_ways a x y r s e f = rw (move_right x r a (sym e), move_right y s a (sym f)) (simp sums)

of_sum : (a b x y r s : ℕ) → a ≡ bit_xor x r → b ≡ bit_xor y s → bit_xor a b ≡ bit_xor (bit_xor x y) (bit_xor r s)
of_sum a b x y r s e f = rw (e, f) (xor_xor_swap x r y s)

-- ---- there is one remainder

module _ (m p : ℕ) (d : HasDegree p m) where
  pub remainder_below-is : (n a : ℕ) → a < 2 ^ (m + n) → IsRemainder m p a (remainder_below m p a n)
  unfolding remainder_below
  remainder_below-is zero a h = record {
    below = rw (add-zero m) at h;
    quotient = (0, rw (product-zero p) refl);
  }
  remainder_below-is (suc n) a h =
      let c = bit_at a (m + n) in
      let next = bit_xor a (c * (p * 2 ^ n)) in
      let r = remainder_below-is n next (step_below m p a n d h) in
      record {
        below = r.below;
        quotient = (
          bit_xor r.quotient.0 (c * 2 ^ n),
          rw (product-xor p r.quotient.0 (c * 2 ^ n), ← digit-pow a (m + n) p n)
              (carry a (c * (p * 2 ^ n)) (product p r.quotient.0) (remainder_below m p next n) r.quotient.1),
        );
      }

  pub remainder-is : (a : ℕ) → IsRemainder m p a (remainder m p a)
  unfolding remainder
  remainder-is a =
      let le : a ≤ m + a = omega arith in
      let powers : 2 ^ a ≤ 2 ^ (m + a) = pow_mono le in
      remainder_below-is a a (omega (arith, powers, below_own_power a))

  pub IsRemainder_unique : (a r s : ℕ) → IsRemainder m p a r → IsRemainder m p a s → r ≡ s
  IsRemainder_unique a r s hr hs =
      let q = bit_xor hr.quotient.0 hs.quotient.0 in
      let rest : product p q ≡ bit_xor r s =
      product-xor p hr.quotient.0 hs.quotient.0
      ∙ two_ways a (product p hr.quotient.0) (product p hs.quotient.0) r s hr.quotient.1 hs.quotient.1 in
      let below : product p q < 2 ^ m = rw rest (xor_lt m r s hr.below hs.below) in
      elim (cases_lt 0 q) [
        | inl more ↦ absurd (omega (arith, below, product-at_least m p q d.at_least more))
        | inr none ↦ let e : q ≡ 0 = omega arith in same_from_xor_zero r s (sym rest ∙ rw e (product-zero p))
      ]

  -- to show a remainder is to give its quotient
  pub remainder_by : (a r q : ℕ) → r < 2 ^ m → a ≡ bit_xor (product p q) r → remainder m p a ≡ r
  remainder_by a r q h e = IsRemainder_unique a (remainder m p a) r (remainder-is a) (record { below = h; quotient = (q, e) })

  pub remainder-below : (a : ℕ) → remainder m p a < 2 ^ m
  remainder-below a = (remainder-is a).below

  pub remainder-small : (a : ℕ) → a < 2 ^ m → remainder m p a ≡ a
  remainder-small a h = remainder_by a a 0 h (rw (product-zero p) refl)

  pub remainder-zero : remainder m p 0 ≡ 0
  remainder-zero = remainder-small 0 (pow_pos m)

  pub remainder-multiple : (q : ℕ) → remainder m p (product p q) ≡ 0
  remainder-multiple q = remainder_by (product p q) 0 q (pow_pos m) (sym (xor_zero_r (product p q)))

  pub remainder-xor : (a b : ℕ) → remainder m p (bit_xor a b) ≡ bit_xor (remainder m p a) (remainder m p b)
  remainder-xor a b =
      let ra = remainder-is a in
      let rb = remainder-is b in
      remainder_by (bit_xor a b) (bit_xor (remainder m p a) (remainder m p b)) (bit_xor ra.quotient.0 rb.quotient.0)
      (xor_lt m (remainder m p a) (remainder m p b) ra.below rb.below)
      (rw (product-xor p ra.quotient.0 rb.quotient.0)
      (of_sum a b (product p ra.quotient.0) (product p rb.quotient.0) (remainder m p a) (remainder m p b) ra.quotient.1 rb.quotient.1))

  pub remainder-remainder : (a : ℕ) → remainder m p (remainder m p a) ≡ remainder m p a
  remainder-remainder a = remainder-small (remainder m p a) (remainder-below a)

  -- a multiple added to a leaves its remainder
  pub remainder-xor_multiple : (q a : ℕ) → remainder m p (bit_xor (product p q) a) ≡ remainder m p a
  remainder-xor_multiple q a = remainder-xor (product p q) a ∙ rw (remainder-multiple q) refl

  pub remainder-product_right : (a b : ℕ) → remainder m p (product a (remainder m p b)) ≡ remainder m p (product a b)
  remainder-product_right a b =
      let q = (remainder-is b).quotient in
      sym (ap (remainder m p)
      (ap (product a) q.1 ∙ product-xor a (product p q.0) (remainder m p b)
      ∙ ap (λ x. bit_xor x (product a (remainder m p b))) (product_left_comm a p q.0))
      ∙ remainder-xor_multiple (product a q.0) (product a (remainder m p b)))

  pub remainder-product_left : (a b : ℕ) → remainder m p (product (remainder m p a) b) ≡ remainder m p (product a b)
  remainder-product_left a b = ap (remainder m p) (product_comm (remainder m p a) b) ∙ remainder-product_right b a ∙ ap (remainder m p) (product_comm b a)

-- ---- the modulus X^m + low, and the double of a residue

pub HasDegree-modulus : (m low : ℕ) → low < 2 ^ m → HasDegree (2 ^ m + low) m
HasDegree-modulus m low h = record { at_least = omega arith; below = omega (arith, h, pow-suc 2 m) }

pub xor-modulus : (m low : ℕ) → low < 2 ^ m → bit_xor (2 ^ m) low ≡ 2 ^ m + low
xor-modulus m low h = ap (λ x. bit_xor x low) (sym (one-mul (2 ^ m))) ∙ xor_shifted 1 m low h ∙ ap (λ x. x + low) (one-mul (2 ^ m))

pub product-two : (a : ℕ) → product a 2 ≡ a * 2
product-two a = product-pow a 1

-- it needs no reduction
pub double_low : (m low a : ℕ) → low < 2 ^ m → a * 2 < 2 ^ m → remainder m (2 ^ m + low) (product a 2) ≡ a * 2
double_low m low a h small = rw (product-two a) (remainder-small m (2 ^ m + low) (HasDegree-modulus m low h) (a * 2) small)

-- its term X^m is reduced; top is X^(m - 1)
pub double_high : (m low a top : ℕ) → low < 2 ^ m → top * 2 ≡ 2 ^ m → top ≤ a → a * 2 < 2 ^ m * 2
    → remainder m (2 ^ m + low) (product a 2) ≡ bit_xor ((a - top) * 2) low
double_high m low a top h twice high below =
    let rest : (a - top) * 2 < 2 ^ m = omega arith in
    let whole : a * 2 ≡ bit_xor (2 ^ m) ((a - top) * 2) =
    sym (ap (λ x. bit_xor x ((a - top) * 2)) (sym (one-mul (2 ^ m))) ∙ xor_shifted 1 m ((a - top) * 2) rest ∙ omega arith) in
    remainder_by m (2 ^ m + low) (HasDegree-modulus m low h) (product a 2) (bit_xor ((a - top) * 2) low) 1
    (xor_lt m ((a - top) * 2) low rest h)
    (product-two a ∙ whole ∙ rw (product-one (2 ^ m + low), ← xor-modulus m low h) (simp sums))
