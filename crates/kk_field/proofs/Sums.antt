-- Sums of polynomials over GF(2): a vector space under the exclusive or, and what it does to digits and to bounds.
use Rattle.std.proofs.Common.{◌≡◌, ℕ, ◌*◌, ◌/◌, ◌%◌, ◌^◌, ◌⊎◌, inl, inr, bit_xor, sym, ap, ◌∙◌, arith}
use Rattle.std.proofs.Math.Nat.{zero-mul, one-mul, add-zero, mod-lt, div-add-mod'}
use Rattle.std.proofs.Math.Pow.{pow_pos}
use Rattle.std.proofs.lemmas.Bool.{cases_lt}
use Rattle.std.specs.Int.Bits.{xor_zero_r, xor_comm, xor_assoc, xor_self, xor_block, xor_shifted, xor_shr, xor_mod}

-- ---- the group

pub xor_left_comm : (a b c : ℕ) → bit_xor a (bit_xor b c) ≡ bit_xor b (bit_xor a c)
xor_left_comm a b c = sym (xor_assoc a b c) ∙ ap (λ x. bit_xor x c) (xor_comm a b) ∙ xor_assoc b a c

pub xor_cancel : (a b : ℕ) → bit_xor a (bit_xor a b) ≡ b
xor_cancel a b = sym (xor_assoc a a b) ∙ ap (λ x. bit_xor x b) (xor_self a)

-- sums are equal up to order and to terms that stand twice
pub ruleset sums = (xor_assoc, xor_comm, xor_left_comm, xor_cancel, xor_self, xor_zero_r)

pub xor_xor_swap : (a b c d : ℕ) → bit_xor (bit_xor a b) (bit_xor c d) ≡ bit_xor (bit_xor a c) (bit_xor b d)
xor_xor_swap a b c d = simp sums

pub same_from_xor_zero : (a b : ℕ) → bit_xor a b ≡ 0 → a ≡ b
same_from_xor_zero a b e = sym (xor_zero_r a) ∙ ap (bit_xor a) (sym e) ∙ xor_cancel a b

-- a ⊕ b ≡ c lets a term change its side
pub move_right : (a b c : ℕ) → bit_xor a b ≡ c → a ≡ bit_xor c b
move_right a b c e = rw (← e) (simp sums)

-- ---- shifts and digits

pub xor_shl : (a b k : ℕ) → bit_xor a b * 2 ^ k ≡ bit_xor (a * 2 ^ k) (b * 2 ^ k)
xor_shl a b k =
    sym (add-zero _) ∙ sym (xor_block k a b 0 0 (pow_pos k) (pow_pos k)) ∙ simp add-zero

pub xor_double : (a b : ℕ) → bit_xor a b * 2 ≡ bit_xor (a * 2) (b * 2)
xor_double a b = xor_shl a b 1

pub xor_half : (a b : ℕ) → bit_xor a b / 2 ≡ bit_xor (a / 2) (b / 2)
xor_half a b = xor_shr a b 1

-- a number is twice its half and its lowest digit
pub by_digits : (n : ℕ) → bit_xor (n / 2 * 2) (n % 2) ≡ n
by_digits n = xor_shifted (n / 2) 1 (n % 2) (mod-lt n (omega arith)) ∙ div-add-mod' n 2

pub digit_cases : (n : ℕ) → (n % 2 ≡ 0) ⊎ (n % 2 ≡ 1)
digit_cases n = elim (cases_lt (n % 2) 1) [ inl h ↦ inl (omega arith) | inr h ↦ inr (omega (arith, mod-lt n {m = 2} (omega arith))) ]

-- a digit times a sum, and the sum of two digits times a number
pub digit-xor : (n a b : ℕ) → n % 2 * bit_xor a b ≡ bit_xor (n % 2 * a) (n % 2 * b)
digit-xor n a b = elim (digit_cases n) [ inl e ↦ rw e (simp zero-mul) | inr e ↦ rw e (simp one-mul) ]

pub xor_digits : (n k a : ℕ) → bit_xor n k % 2 * a ≡ bit_xor (n % 2 * a) (k % 2 * a)
xor_digits n k a =
    elim (digit_cases n) [
      | inl e ↦ elim (digit_cases k) [
        | inl f ↦ rw (xor_mod n k 1, e, f) (simp zero-mul)
        | inr f ↦ rw (xor_mod n k 1, e, f) (simp (zero-mul, one-mul))
      ]
      | inr e ↦ elim (digit_cases k) [
        | inl f ↦ rw (xor_mod n k 1, e, f) (simp (zero-mul, one-mul, xor_zero_r))
        | inr f ↦ rw (xor_mod n k 1, e, f) (simp (zero-mul, one-mul, xor_self))
      ]
    ]
