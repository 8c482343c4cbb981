-- Degrees: a has degree k where 2^k ≤ a < 2^(k+1). The degree of a product is the sum of the degrees.
use Rattle.std.proofs.Common.{◌≡◌, ℕ, zero, suc, ◌+◌, ◌-◌, ◌*◌, ◌/◌, ◌%◌, ◌^◌, ◌<◌, ◌≤◌, bit_xor, ◌∙◌, arith, inl, inr}
use Rattle.std.proofs.Math.Nat.{pow-suc, zero-mul, one-mul, add-zero, add-suc}
use Rattle.std.proofs.Math.Arith.{bin_ind}
use Rattle.std.proofs.Math.Pow.{pow_pos, pow_mono}
use Rattle.std.proofs.lemmas.Bool.{cases_lt}
use Rattle.std.specs.Int.Bits.{xor_self, xor_comm, xor_block, xor_lt}
use Rattle.kk_field.proofs.Sums.{xor_cancel, digit_cases, same_from_xor_zero}
use Rattle.kk_field.proofs.Products.{product-digit, product-one, product-xor}
pub use Rattle.kk_field.specs.Polynomial.{HasDegree}
use Rattle.kk_field.specs.Polynomial.{product}

-- ---- sums and degrees

-- the highest terms cancel
pub xor_top : (k a b : ℕ) → HasDegree a k → HasDegree b k → bit_xor a b < 2 ^ k
xor_top k a b ha hb =
    let up : 2 ^ suc k ≡ 2 ^ k * 2 = pow-suc 2 k in
    let r : (r : ℕ) × (a ≡ 1 * 2 ^ k + r) × (r < 2 ^ k) = (a - 2 ^ k, omega (arith, ha.at_least), omega (arith, ha.at_least, ha.below)) in
    let s : (s : ℕ) × (b ≡ 1 * 2 ^ k + s) × (s < 2 ^ k) = (b - 2 ^ k, omega (arith, hb.at_least), omega (arith, hb.at_least, hb.below)) in
    rw (r.1, s.1, xor_block k 1 1 r.0 s.0 r.2 s.2) (omega (arith, xor_lt k r.0 s.0 r.2 s.2))

-- a lower term leaves the degree as it is
pub HasDegree-xor : (a b k : ℕ) → HasDegree a k → b < 2 ^ k → HasDegree (bit_xor a b) k
HasDegree-xor a b k ha hb = record {
  at_least =
      elim (cases_lt (bit_xor a b) (2 ^ k)) [
        | inl low ↦ let sum : bit_xor b (bit_xor b a) < 2 ^ k = xor_lt k b (bit_xor b a) hb (rw (xor_comm b a) low) in
            absurd (omega (arith, ha.at_least, rw (xor_cancel b a) at sum))
        | inr h ↦ h
      ];
  below = xor_lt (suc k) a b ha.below (omega (arith, hb, pow-suc 2 k));
}

pub degree_of : (a : ℕ) → 0 < a → (k : ℕ) × HasDegree a k
degree_of =
    bin_ind (λ a. 0 < a → (k : ℕ) × HasDegree a k) (λ h. absurd (omega (arith, h)))
    (λ a ih h. elim (cases_lt (a / 2) 1) [
      | inl one ↦ (0, record { at_least = omega arith; below = omega arith })
      | inr more ↦ let k = ih more in
          (suc k.0, record { at_least = omega (arith, k.1.at_least, pow-suc 2 k.0); below = omega (arith, k.1.below, pow-suc 2 (suc k.0)) })
    ])

pub degree-at_least : (m a k : ℕ) → 2 ^ m ≤ a → a < 2 ^ suc k → m ≤ k
degree-at_least m a k h below =
    elim (cases_lt k m) [ inl more ↦ let powers : 2 ^ suc k ≤ 2 ^ m = pow_mono more in absurd (omega (arith, powers)) | inr h ↦ h ]

pub degree_unique : (a j k : ℕ) → HasDegree a j → HasDegree a k → j ≡ k
degree_unique a j k hj hk = omega (arith, degree-at_least j a k hj.at_least hk.below, degree-at_least k a j hk.at_least hj.below)

-- ---- products and degrees

pub HasDegree-product : (a j b k : ℕ) → HasDegree a j → HasDegree b k → HasDegree (product a b) (j + k)
HasDegree-product a j b zero ha hb =
    let one : b ≡ 1 = omega (arith, hb.at_least, hb.below) in
    rw (one, product-one a, add-zero j) ha
HasDegree-product a j b (suc k) ha hb =
    let half : HasDegree (b / 2) k = record { at_least = omega (arith, hb.at_least, pow-suc 2 k); below = omega (arith, hb.below, pow-suc 2 (suc k)) } in
    let ih = HasDegree-product a j (b / 2) k ha half in
    let up : HasDegree (product a (b / 2) * 2) (suc (j + k)) =
    record { at_least = omega (arith, ih.at_least, pow-suc 2 (j + k)); below = omega (arith, ih.below, pow-suc 2 (suc (j + k))) } in
    let le : suc j ≤ suc (j + k) = omega arith in
    let more : 2 ^ suc j ≤ 2 ^ suc (j + k) = pow_mono le in
    let low : b % 2 * a < 2 ^ suc (j + k) =
    elim (digit_cases b) [ inl e ↦ rw (e, zero-mul a) (pow_pos (suc (j + k))) | inr e ↦ rw (e, one-mul a) (omega (arith, ha.below, more)) ] in
    rw (add-suc j k, product-digit a b, xor_comm (b % 2 * a) (product a (b / 2) * 2))
    (HasDegree-xor (product a (b / 2) * 2) (b % 2 * a) (suc (j + k)) up low)

-- a polynomial's degree is below that of a multiple of it
pub product-at_least : (m p q : ℕ) → 2 ^ m ≤ p → 0 < q → 2 ^ m ≤ product p q
product-at_least m p q hp hq =
    let positive : 0 < p = omega (arith, hp, pow_pos m) in
    let j = degree_of p positive in
    let k = degree_of q hq in
    let d = HasDegree-product p j.0 q k.0 j.1 k.1 in
    let least : m ≤ j.0 = degree-at_least m p j.0 hp j.1.below in
    let le : m ≤ j.0 + k.0 = omega arith in
    let powers : 2 ^ m ≤ 2 ^ (j.0 + k.0) = pow_mono le in
    omega (arith, powers, d.at_least)

pub product-positive : (a b : ℕ) → 0 < a → 0 < b → 0 < product a b
product-positive a b ha hb = omega (arith, product-at_least 0 a b ha hb)

-- no zero divisors
pub no_zero_divisors : (a b : ℕ) → product a b ≡ 0 → 0 < a → b ≡ 0
no_zero_divisors a b e ha = elim (cases_lt 0 b) [ inl hb ↦ absurd (omega (arith, e, product-positive a b ha hb)) | inr h ↦ omega arith ]

pub product_cancel : (a b c : ℕ) → 0 < a → product a b ≡ product a c → b ≡ c
product_cancel a b c ha e =
    same_from_xor_zero b c (no_zero_divisors a (bit_xor b c) (product-xor a b c ∙ rw e (xor_self (product a c))) ha)
