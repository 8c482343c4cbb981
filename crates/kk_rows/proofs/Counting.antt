-- How many numbers below 2 ^ n pass a test. A span of dimension d has 2 ^ d members, so what spans the same has the
-- same dimension.
use Rattle.std.proofs.Common.{◌≡◌, ℕ, zero, suc, ◌+◌, ◌*◌, ◌/◌, ◌%◌, ◌^◌, ◌<◌, ◌≤◌, Bool, true, false, cond, ◌||◌, ◌==◌, ◌⊎◌, refl, sym, ap, ap₂, ◌∙◌, inl, inr, bit_xor, arith}
use Rattle.std.specs.Int.Bits.{xor_zero_l}
use Rattle.std.proofs.lemmas.Nat.{xor_block}
use Rattle.std.proofs.lemmas.Bool.{eq-eqb, ne_eqb, cases_eq}
use Rattle.std.proofs.Math.Nat.{two-pow-succ, add_comm}

-- how many numbers below 2 ^ n pass, by their lowest bit
unfoldable pub passing : ℕ → (ℕ → Bool) → ℕ
passing zero p = cond (p 0) 1 0
passing (suc n) p = passing n (λ x. p (x * 2 + 0)) + passing n (λ x. p (x * 2 + 1))

pub passing_same : (n : ℕ) (p q : ℕ → Bool) → ((x : ℕ) → p x ≡ q x) → passing n p ≡ passing n q
passing_same n p q h = ap (passing n) (λ i x. h x i)

cond_le : (a b : Bool) → (a ≡ true → b ≡ true) → cond a 1 0 ≤ cond b 1 0
cond_le true b h = rw (h refl) (omega arith)
cond_le false b h = omega arith

-- a test that passes more passes at least as many
pub passing-le : (n : ℕ) (p q : ℕ → Bool) → ((x : ℕ) → p x ≡ true → q x ≡ true) → passing n p ≤ passing n q
unfolding passing
passing-le zero p q h = cond_le (p 0) (q 0) (h 0)
passing-le (suc n) p q h =
    omega (arith, passing-le n (λ x. p (x * 2 + 0)) (λ x. q (x * 2 + 0)) (λ x. h (x * 2 + 0)), passing-le n (λ x. p (x * 2 + 1)) (λ x. q (x * 2 + 1)) (λ x. h (x * 2 + 1)))

pub passing-le_all : (n : ℕ) (p : ℕ → Bool) → passing n p ≤ 2 ^ n
unfolding passing
passing-le_all zero p = elim (p 0) as (λ b. cond b 1 0 ≤ 1) [ true ↦ omega arith | false ↦ omega arith ]
passing-le_all (suc n) p =
    omega (arith, two-pow-succ n, passing-le_all n (λ x. p (x * 2 + 0)), passing-le_all n (λ x. p (x * 2 + 1)))

cond_or : (a b : Bool) → (a ≡ true → b ≡ false) → cond (a || b) 1 0 ≡ cond a 1 0 + cond b 1 0
cond_or true b h = rw (h refl) refl
cond_or false b h = omega arith

-- two tests that never pass together
pub passing-or : (n : ℕ) (p q : ℕ → Bool) → ((x : ℕ) → p x ≡ true → q x ≡ false) → passing n (λ x. p x || q x) ≡ passing n p + passing n q
unfolding passing
passing-or zero p q h = cond_or (p 0) (q 0) (h 0)
passing-or (suc n) p q h =
    omega (arith, passing-or n (λ x. p (x * 2 + 0)) (λ x. q (x * 2 + 0)) (λ x. h (x * 2 + 0)), passing-or n (λ x. p (x * 2 + 1)) (λ x. q (x * 2 + 1)) (λ x. h (x * 2 + 1)))

passing-none : (n : ℕ) → passing n (λ x. false) ≡ 0
unfolding passing
passing-none zero = refl
passing-none (suc n) = omega (arith, passing-none n)

-- 0 alone
pub passing-zero : (n : ℕ) → passing n (λ x. x == 0) ≡ 1
unfolding passing
passing-zero zero = refl
passing-zero (suc n) =
    let even : passing n (λ x. x * 2 + 0 == 0) ≡ passing n (λ x. x == 0) = passing_same n _ _ (λ x. elim (cases_eq x 0) [
      | inl e ↦ eq-eqb (x * 2 + 0) 0 (omega arith) ∙ sym (eq-eqb x 0 e)
      | inr e ↦ ne_eqb (x * 2 + 0) 0 (λ k. e (omega arith)) ∙ sym (ne_eqb x 0 e)
    ]) in
    let odd : passing n (λ x. x * 2 + 1 == 0) ≡ passing n (λ x. false) = passing_same n _ _ (λ x. ne_eqb (x * 2 + 1) 0 (λ k. omega arith)) in
    omega (arith, even, odd, passing-none n, passing-zero n)

-- the sum of two numbers by their lowest bits
xor_lowest : (x c v q b : ℕ) → c < 2 → b < 2 → v ≡ q * 2 + b → bit_xor (x * 2 + c) v ≡ bit_xor x q * 2 + bit_xor c b
xor_lowest x c v q b hc hb e = ap (bit_xor (x * 2 + c)) e ∙ xor_block 1 x q c b hc hb

lowest_cases : (v : ℕ) → (v ≡ (v / 2) * 2 + 0) ⊎ (v ≡ (v / 2) * 2 + 1)
lowest_cases v = elim (cases_eq (v % 2) 0) [ inl e ↦ inl (omega arith) | inr e ↦ inr (omega arith) ]

-- to add one number to each is to go through the same numbers in another order
pub passing-xor : (n : ℕ) (p : ℕ → Bool) (v : ℕ) → v < 2 ^ n → passing n (λ x. p (bit_xor x v)) ≡ passing n p
unfolding passing
passing-xor zero p v h = let e : v ≡ 0 = omega arith in ap (λ x. cond (p x) 1 0) (xor_zero_l v ∙ e)
passing-xor (suc n) p v h =
    let q = v / 2 in
    let below : q < 2 ^ n = omega (arith, two-pow-succ n) in
    let evens = passing-xor n (λ x. p (x * 2 + 0)) q below in
    let odds = passing-xor n (λ x. p (x * 2 + 1)) q below in
    elim (lowest_cases v) [
      | inl e ↦
          let low = passing_same n (λ x. p (bit_xor (x * 2 + 0) v)) (λ x. p (bit_xor x q * 2 + 0)) (λ x. ap p (xor_lowest x 0 v q 0 (omega arith) (omega arith) e)) in
          let high = passing_same n (λ x. p (bit_xor (x * 2 + 1) v)) (λ x. p (bit_xor x q * 2 + 1)) (λ x. ap p (xor_lowest x 1 v q 0 (omega arith) (omega arith) e)) in
          ap₂ ◌+◌ (low ∙ evens) (high ∙ odds)
      | inr e ↦
          let low = passing_same n (λ x. p (bit_xor (x * 2 + 0) v)) (λ x. p (bit_xor x q * 2 + 1)) (λ x. ap p (xor_lowest x 0 v q 1 (omega arith) (omega arith) e)) in
          let high = passing_same n (λ x. p (bit_xor (x * 2 + 1) v)) (λ x. p (bit_xor x q * 2 + 0)) (λ x. ap p (xor_lowest x 1 v q 1 (omega arith) (omega arith) e)) in
          ap₂ ◌+◌ (low ∙ odds) (high ∙ evens) ∙ add_comm _ _
    ]
