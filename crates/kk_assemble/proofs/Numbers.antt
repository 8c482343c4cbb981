-- Numbers by their bits, most significant first.
use Rattle.std.proofs.Common.{◌≡◌, ℕ, zero, suc, ◌+◌, ◌-◌, ◌*◌, ◌/◌, ◌%◌, ◌^◌, ◌<◌, ◌≤◌, refl, sym, ap, ◌∙◌, inl, inr, arith, add-one, mul_assoc, mul_comm}
use Rattle.std.specs.Int.{bit_at}
use Rattle.std.proofs.Math.Nat.{pow-suc, pow-le-pow_right}
use Rattle.std.proofs.lemmas.Bool.{cases_lt}
use Rattle.std.proofs.lemmas.Nat.Bits.{bit_at_lowest, bit_at-suc, same_from_bits_below}
use Rattle.kk_assemble.specs.FileBits.{number_from}

-- one bit more
pub number_from_more : (bit : ℕ → ℕ) (at n : ℕ) → number_from bit at (n + 1) ≡ 2 * number_from bit at n + bit (at + n)
unfolding number_from
number_from_more bit at n = rw add-one refl

-- the bits of a row and of the row after it
pub number_from-append : (bit : ℕ → ℕ) (at a b : ℕ) → number_from bit at (a + b) ≡ number_from bit at a * 2 ^ b + number_from bit (at + a) b
unfolding number_from
number_from-append bit at a zero =
    let none : a + 0 ≡ a = omega arith in
    ap (number_from bit at) none ∙ omega arith
number_from-append bit at a (suc b) =
    let up : a + suc b ≡ suc (a + b) = omega arith in
    let place : at + (a + b) ≡ (at + a) + b = omega arith in
    let last : bit (at + (a + b)) ≡ bit ((at + a) + b) = ap bit place in
    let x = number_from bit at a in
    let twice : x * 2 ^ suc b ≡ 2 * (x * 2 ^ b) = ap (λ (p : ℕ). x * p) (pow-suc 2 b) ∙ sym (mul_assoc x (2 ^ b) 2) ∙ mul_comm (x * 2 ^ b) 2 in
    ap (number_from bit at) up ∙ omega (arith, number_from-append bit at a b, last, twice)

-- n bits make a number below 2^n
pub number_from_below : (bit : ℕ → ℕ) (at n : ℕ) → ((t : ℕ) → bit t < 2) → number_from bit at n < 2 ^ n
unfolding number_from
number_from_below bit at zero bits = omega arith
number_from_below bit at (suc n) bits = omega (arith, number_from_below bit at n bits, bits (at + n), pow-suc 2 n)

-- up to w bits make a number below 2^w
pub number_from_small : (bit : ℕ → ℕ) (at n w : ℕ) → ((t : ℕ) → bit t < 2) → n ≤ w → number_from bit at n < 2 ^ w
number_from_small bit at n w bits few =
    let most : 2 ^ n ≤ 2 ^ w = pow-le-pow_right {n = 2} (omega arith) few in
    omega (arith, number_from_below bit at n bits, most)

-- the same bits make the same number
pub same_numbers : (one other : ℕ → ℕ) (at n : ℕ) → ((i : ℕ) → i < n → one (at + i) ≡ other (at + i)) → number_from one at n ≡ number_from other at n
unfolding number_from
same_numbers one other at zero same = refl
same_numbers one other at (suc n) same =
    omega (arith, same_numbers one other at n (λ i below. same i (omega arith)), same n (omega arith))

-- the bits of the number
pub bit_at-number_from : (bit : ℕ → ℕ) (at n i : ℕ) → ((t : ℕ) → bit t < 2) → i < n → bit_at (number_from bit at n) (n - 1 - i) ≡ bit (at + i)
unfolding number_from
bit_at-number_from bit at zero i bits below = absurd (omega arith)
bit_at-number_from bit at (suc n) i bits below =
    let last : bit (at + n) < 2 = bits (at + n) in
    elim (cases_lt i n) as (λ _. bit_at (2 * number_from bit at n + bit (at + n)) (suc n - 1 - i) ≡ bit (at + i)) [
      | inl before ↦
          let place : suc n - 1 - i ≡ suc (n - 1 - i) = omega arith in
          let half : (2 * number_from bit at n + bit (at + n)) / 2 ≡ number_from bit at n = omega arith in
          ap (bit_at (2 * number_from bit at n + bit (at + n))) place
          ∙ bit_at-suc (2 * number_from bit at n + bit (at + n)) (n - 1 - i)
          ∙ ap (λ (x : ℕ). bit_at x (n - 1 - i)) half
          ∙ bit_at-number_from bit at n i bits before
      | inr le ↦
          let here : i ≡ n = omega arith in
          let place : suc n - 1 - i ≡ 0 = omega arith in
          let odd : (2 * number_from bit at n + bit (at + n)) % 2 ≡ bit (at + n) = omega arith in
          ap (bit_at (2 * number_from bit at n + bit (at + n))) place
          ∙ bit_at_lowest (2 * number_from bit at n + bit (at + n))
          ∙ odd
          ∙ ap (λ (x : ℕ). bit (at + x)) (sym here)
    ]

-- a number by its own bits
pub number_from-bit_at : (x : ℕ) (bit : ℕ → ℕ) (at n : ℕ) → ((t : ℕ) → bit t < 2) → x < 2 ^ n → ((i : ℕ) → i < n → bit (at + i) ≡ bit_at x (n - 1 - i)) → number_from bit at n ≡ x
number_from-bit_at x bit at n bits below same =
    same_from_bits_below n (number_from bit at n) x (number_from_below bit at n bits) below (λ i within.
    let mirrored : n - 1 - (n - 1 - i) ≡ i = omega arith in
    let other : n - 1 - i < n = omega arith in
    ap (bit_at (number_from bit at n)) (sym mirrored)
    ∙ bit_at-number_from bit at n (n - 1 - i) bits other
    ∙ same (n - 1 - i) other
    ∙ ap (bit_at x) mirrored)
