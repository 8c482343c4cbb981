-- The bit that leads a row.
use Rattle.std.proofs.Common.{◌≡◌, ℕ, zero, suc, ◌+◌, ◌-◌, ◌*◌, ◌/◌, ◌%◌, ◌^◌, ◌<◌, ◌≤◌, ◌⊎◌, sym, ap, ap₂, ◌∙◌, subst, inl, inr, bit_xor, arith, add-one}
use Rattle.std.specs.Int.{bit_at}
use Rattle.std.specs.Int.Bits.{xor_zero_r}
use Rattle.std.proofs.Math.Nat.{two-pow-succ, mod-lt}
use Rattle.std.proofs.lemmas.Nat.{xor_block, pow_pos, div-add-mod'}
use Rattle.std.proofs.Math.Pow.{pow_mono}
use Rattle.std.proofs.lemmas.Nat.Bits.{bit_at_xor, bit_at_above, bit_at-lt, bit_at_cat_high}
use Rattle.std.proofs.lemmas.Bool.{cases_lt, cases_eq, cases_order}
use Rattle.kk_rows.specs.Echelon.{IsLeadingBit, LeadsAbove}
use Rattle.kk_rows.proofs.Sums.{xor_twice}

pub bit_cases : (v p : ℕ) → (bit_at v p ≡ 0) ⊎ (bit_at v p ≡ 1)
bit_cases v p = elim (cases_eq (bit_at v p) 0) [ inl e ↦ inl e | inr e ↦ let l = bit_at-lt v p in inr (omega arith) ]

pub bit_zero_zero : (a b p : ℕ) → bit_at a p ≡ 0 → bit_at b p ≡ 0 → bit_at (bit_xor a b) p ≡ 0
bit_zero_zero a b p ha hb = bit_at_xor a b p ∙ ap₂ (λ x y. (x + y) % 2) ha hb

pub bit_one_zero : (a b p : ℕ) → bit_at a p ≡ 1 → bit_at b p ≡ 0 → bit_at (bit_xor a b) p ≡ 1
bit_one_zero a b p ha hb = bit_at_xor a b p ∙ ap₂ (λ x y. (x + y) % 2) ha hb

pub bit_one_one : (a b p : ℕ) → bit_at a p ≡ 1 → bit_at b p ≡ 1 → bit_at (bit_xor a b) p ≡ 0
bit_one_one a b p ha hb = bit_at_xor a b p ∙ ap₂ (λ x y. (x + y) % 2) ha hb

power_step : (n : ℕ) → 2 ^ (n + 1) ≡ 2 ^ n + 2 ^ n
power_step n = rw add-one (two-pow-succ n)

pub zero_is_not_one : (n : ℕ) → n ≡ 0 → n ≡ 1 → ⊥
zero_is_not_one n a b = omega arith

-- a row with bit p set is 2 ^ p at least
pub power_le : (row p : ℕ) → bit_at row p ≡ 1 → 2 ^ p ≤ row
power_le row p h = elim (cases_lt row (2 ^ p)) [
  | inl k ↦ absurd (zero_is_not_one _ (bit_at_above row p p k (omega arith)) h)
  | inr k ↦ k
]

leading_below : (n row : ℕ) → row < 2 ^ n → 0 < row → (p : ℕ) × IsLeadingBit row p
leading_below zero row h k = absurd (omega arith)
leading_below (suc n) row h k = elim (cases_lt row (2 ^ n)) [
  | inl low ↦ leading_below n row low k
  | inr high ↦
      let rest : row - 2 ^ n < 2 ^ n = omega (arith, two-pow-succ n) in
      let parts : row ≡ 1 * 2 ^ n + (row - 2 ^ n) = omega arith in
      let one : bit_at row n ≡ 1 = ap (λ x. bit_at x n) parts ∙ bit_at_cat_high 1 n (row - 2 ^ n) n rest (omega arith) ∙ (let none : n - n ≡ 0 = omega arith in ap (bit_at 1) none) in
      let above : row < 2 ^ (n + 1) = omega (arith, power_step n, two-pow-succ n, h) in
      (n, record { is_one = one; none_above = above })
]

lt_power : (r : ℕ) → r < 2 ^ r
lt_power zero = omega arith
lt_power (suc r) = omega (arith, two-pow-succ r, lt_power r)

-- a row that isn't 0 has a leading bit
pub leading_bit : (row : ℕ) → 0 < row → (p : ℕ) × IsLeadingBit row p
leading_bit row h = leading_below row row (lt_power row) h

-- and just one
pub leading_bit_is_one : (row p q : ℕ) → IsLeadingBit row p → IsLeadingBit row q → p ≡ q
leading_bit_is_one row p q hp hq = elim (cases_order p q) [
  | inl e ↦ e
  | inr k ↦ elim k [
    | inl lt ↦ absurd (zero_is_not_one _ (bit_at_above row (p + 1) q hp.none_above (omega arith)) hq.is_one)
    | inr gt ↦ absurd (zero_is_not_one _ (bit_at_above row (q + 1) p hq.none_above (omega arith)) hp.is_one)
  ]
]

even_plus_one : (a : ℕ) → a % 2 ≡ 0 → bit_xor a 1 ≡ a + 1
even_plus_one a h =
    let parts : a ≡ (a / 2) * 2 + 0 = omega arith in
    ap (λ x. bit_xor x 1) parts ∙ xor_block 1 (a / 2) 0 0 1 (omega arith) (omega arith) ∙ ap (λ x. x * 2 + 1) (xor_zero_r (a / 2)) ∙ omega arith

-- a number whose bit at the leading bit of the row is 0 is below its sum with the row
pub lt-xor : (row p v : ℕ) → IsLeadingBit row p → bit_at v p ≡ 0 → v < bit_xor v row
lt-xor row p v lead h =
    let a = v / 2 ^ p in
    let s = v % 2 ^ p in
    let pos = pow_pos p in
    let low : s < 2 ^ p = mod-lt v pos in
    let v_parts : v ≡ a * 2 ^ p + s = sym (div-add-mod' v (2 ^ p)) in
    let row_le = power_le row p lead.is_one in
    let top = power_step p in
    let rest : row - 2 ^ p < 2 ^ p = omega (arith, lead.none_above, top) in
    let row_parts : row ≡ 1 * 2 ^ p + (row - 2 ^ p) = omega arith in
    let sum = ap₂ bit_xor v_parts row_parts ∙ xor_block p a 1 s (row - 2 ^ p) low rest ∙ ap (λ x. x * 2 ^ p + bit_xor s (row - 2 ^ p)) (even_plus_one a h) in
    let grown : a * 2 ^ p + s < (a + 1) * 2 ^ p + bit_xor s (row - 2 ^ p) = omega (arith, low) in
    rw sum (subst (λ x. x < (a + 1) * 2 ^ p + bit_xor s (row - 2 ^ p)) (sym v_parts) grown)

-- a number whose bit there is 1 is above its sum with the row
pub gt-xor : (row p v : ℕ) → IsLeadingBit row p → bit_at v p ≡ 1 → bit_xor v row < v
gt-xor row p v lead h =
    let cleared = bit_one_one v row p h lead.is_one in
    subst (λ x. bit_xor v row < x) (xor_twice v row) (lt-xor row p (bit_xor v row) lead cleared)

-- a row that leads above another is above it
pub lt_from_leads : (upper lower : ℕ) → 0 < upper → 0 < lower → LeadsAbove upper lower → lower < upper
lt_from_leads upper lower hu hl above =
    let u = leading_bit upper hu in
    let l = leading_bit lower hl in
    let lt = above u.0 l.0 u.1 l.1 in
    let le : l.0 + 1 ≤ u.0 = omega arith in
    let m : 2 ^ (l.0 + 1) ≤ 2 ^ u.0 = pow_mono le in
    omega (arith, l.1.none_above, m, power_le upper u.0 u.1.is_one)
