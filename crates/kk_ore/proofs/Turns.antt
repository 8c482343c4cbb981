-- One turn of a division: a term is added to the quotient, and its product with the divisor to the remainder.
use Rattle.std.proofs.Common.{◌≡◌, ℕ, zero, suc, ◌+◌, ◌-◌, ◌*◌, ◌^◌, ◌<◌, ◌≤◌, List, bit_xor, sym, ap, ◌∙◌, subst, arith, inl, inr}
use Rattle.std.specs.Prelude.{slice_index}
use Rattle.std.proofs.Math.Nat.{mul-le-mul_left, zero-mul}
use Rattle.std.proofs.lemmas.Bool.{cases_lt}
use Rattle.std.specs.Int.Bits.{xor_zero_r, xor_self, xor_lt}
use Rattle.kk_field.proofs.Sums.{xor_xor_swap}
use Rattle.kk_field.proofs.Residues.{field_product_assoc, field_product_comm, field_product_left_comm, field_product-one, frobenius-field_product, frobenius-one}
use Rattle.kk_field.specs.Field.{Modulus, field_product, frobenius}
use Rattle.kk_linpoly.specs.LinPoly.{IsOver}
use Rattle.kk_linpoly.proofs.Coefficients.{coefficient-lt, IsOver-from}

-- a is still the product and the remainder: at one place, and at all
pub sum_at : (a whole whole' remainder remainder' term : ℕ) → a ≡ bit_xor whole remainder → whole' ≡ bit_xor whole term
    → remainder' ≡ bit_xor remainder term → a ≡ bit_xor whole' remainder'
sum_at a whole whole' remainder remainder' term sum whole_more remainder_more =
    sum
    ∙ sym (ap (λ x. bit_xor x remainder') whole_more ∙ ap (bit_xor (bit_xor whole term)) remainder_more
    ∙ xor_xor_swap whole term remainder term ∙ ap (bit_xor (bit_xor whole remainder)) (xor_self term) ∙ xor_zero_r (bit_xor whole remainder))

pub sum_more : (a whole whole' remainder remainder' term : ℕ → ℕ) (s : ℕ) → ((n : ℕ) → a n ≡ bit_xor (whole n) (remainder n))
    → ((n : ℕ) → n < s → whole' n ≡ whole n) → ((j : ℕ) → whole' (s + j) ≡ bit_xor (whole (s + j)) (term j))
    → ((n : ℕ) → n < s → remainder' n ≡ remainder n) → ((j : ℕ) → remainder' (s + j) ≡ bit_xor (remainder (s + j)) (term j))
    → (n : ℕ) → a n ≡ bit_xor (whole' n) (remainder' n)
sum_more a whole whole' remainder remainder' term s sum whole_before whole_more remainder_before remainder_more n =
    elim (cases_lt n s) [
      | inl before ↦ sum n ∙ sym (ap (λ x. bit_xor x (remainder' n)) (whole_before n before) ∙ ap (bit_xor (whole n)) (remainder_before n before))
      | inr past ↦ let place : s + (n - s) ≡ n = omega arith in
          subst (λ k. a k ≡ bit_xor (whole' k) (remainder' k)) place (at (n - s))
    ]
  where
    at : (j : ℕ) → a (s + j) ≡ bit_xor (whole' (s + j)) (remainder' (s + j))
    at j =
        sum_at (a (s + j)) (whole (s + j)) (whole' (s + j)) (remainder (s + j)) (remainder' (s + j)) (term j) (sum (s + j)) (whole_more j) (remainder_more j)

-- the remainder ends one place earlier, where the last coefficient of the product, of k coefficients, was its own
pub ends_more : (remainder remainder' term : ℕ → ℕ) (s k : ℕ) → 0 < k → ((n : ℕ) → s + 1 + k ≤ n + 1 → remainder n ≡ 0)
    → ((j : ℕ) → remainder' (s + j) ≡ bit_xor (remainder (s + j)) (term j)) → term (k - 1) ≡ remainder (s + (k - 1))
    → ((j : ℕ) → k ≤ j → term j ≡ 0) → (n : ℕ) → s + k ≤ n + 1 → remainder' n ≡ 0
ends_more remainder remainder' term s k some ends more leads none n past =
    let place : s + (n - s) ≡ n = omega arith in
    subst (λ i. remainder' i ≡ 0) place (more (n - s) ∙ cancelled)
  where
    cancelled : bit_xor (remainder (s + (n - s))) (term (n - s)) ≡ 0
    cancelled =
        elim (cases_lt (n - s) k) [
          | inl within ↦ let last : n - s ≡ k - 1 = omega arith in
              ap (λ j. bit_xor (remainder (s + j)) (term j)) last ∙ ap (bit_xor (remainder (s + (k - 1)))) leads ∙ xor_self (remainder (s + (k - 1)))
          | inr beyond ↦ ap (bit_xor (remainder (s + (n - s)))) (none (n - s) beyond) ∙ xor_zero_r (remainder (s + (n - s)))
              ∙ ends (s + (n - s)) (omega arith)
        ]

pub IsOver-more : (m : ℕ) (remainder remainder' : List ℕ) (term : ℕ → ℕ) (s : ℕ) → IsOver m remainder → ((j : ℕ) → term j < 2 ^ m)
    → ((n : ℕ) → n < s → slice_index remainder' n ≡ slice_index remainder n)
    → ((j : ℕ) → slice_index remainder' (s + j) ≡ bit_xor (slice_index remainder (s + j)) (term j)) → IsOver m remainder'
IsOver-more m remainder remainder' term s over small before more =
    IsOver-from m remainder'
    (λ n. elim (cases_lt n s) [
      | inl less ↦ subst (λ x. x < 2 ^ m) (sym (before n less)) (coefficient-lt m remainder over n)
      | inr past ↦ let place : s + (n - s) ≡ n = omega arith in
          subst (λ k. slice_index remainder' k < 2 ^ m) place
          (subst (λ x. x < 2 ^ m) (sym (more (n - s)))
          (xor_lt m (slice_index remainder (s + (n - s))) (term (n - s)) (coefficient-lt m remainder over (s + (n - s))) (small (n - s))))
    ])

-- ---- steps

-- the steps of the turns from place s on
pub turns_split : (s cost : ℕ) → 0 < s → s * cost ≡ (s - 1) * cost + cost
turns_split s cost some =
    let next : s ≡ s - 1 + 1 = omega arith in
    ap (λ k. k * cost) next ∙ sum (s - 1)
  where
    sum : (k : ℕ) → (k + 1) * cost ≡ k * cost + cost
    sum k = omega arith

-- the steps before the first turn are no more than one of theirs each turn
pub turns_cost : (places before cost : ℕ) → 0 < places → before + places * cost ≤ places * (before + cost)
turns_cost places before cost some =
    let one : 1 ≤ places = omega arith in
    omega (arith, mul-le-mul_left before one)

pub left_cost : (m n k places : ℕ) → 1 ≤ m → 1 ≤ k → places ≤ n → places * (3 * m + 1 + 2 * k) ≤ n * (4 * m + 4 * n * k)
left_cost m zero k places m_some k_some few = let none : places ≡ 0 = omega arith in rw (none, zero-mul (3 * m + 1 + 2 * k)) (omega arith)
left_cost m (suc n) k places m_some k_some few =
    let one : 1 ≤ suc n = omega arith in
    let turn : 3 * m + 1 + 2 * k ≤ 4 * m + 4 * suc n * k = omega (arith, mul-le-mul_left k one) in
    omega (arith, mul-le-mul_left (3 * m + 1 + 2 * k) few, mul-le-mul_left (suc n) turn)

pub right_cost : (m n k places : ℕ) → 1 ≤ k → places ≤ n → places * (2 * m + places * (k + 1)) ≤ n * (4 * m + 4 * n * k)
right_cost m n k places k_some few =
    let turn : 2 * m + places * (k + 1) ≤ 4 * m + 4 * n * k = omega (arith, mul-le-mul_left (k + 1) few, mul-le-mul_left n k_some) in
    omega (arith, mul-le-mul_left (2 * m + places * (k + 1)) few, mul-le-mul_left n turn)

module _ (f : Modulus) (h : f.low < 2 ^ f.degree) where
  -- c is a root of the quotient of two leading coefficients
  pub left_leads : (b inverse lead c ratio k : ℕ) → lead < 2 ^ f.degree → field_product f b inverse ≡ 1
      → ratio ≡ field_product f lead inverse → frobenius f k c ≡ ratio → field_product f b (frobenius f k c) ≡ lead
  left_leads b inverse lead c ratio k below one ratio_is root =
      ap (field_product f b) (root ∙ ratio_is) ∙ field_product_left_comm f h b lead inverse
      ∙ ap (field_product f lead) one ∙ field_product-one f h lead below

  -- c is the quotient of a leading coefficient and a power of another
  pub right_leads : 1 < 2 ^ f.degree → (b inverse lead c power s : ℕ) → lead < 2 ^ f.degree → field_product f b inverse ≡ 1
      → power ≡ frobenius f s inverse → c ≡ field_product f lead power → field_product f c (frobenius f s b) ≡ lead
  right_leads one_small b inverse lead c power s below one power_is c_is =
      ap (λ x. field_product f x (frobenius f s b)) (c_is ∙ ap (field_product f lead) power_is)
      ∙ field_product_assoc f h lead (frobenius f s inverse) (frobenius f s b)
      ∙ ap (field_product f lead)
      (sym (frobenius-field_product f h s inverse b) ∙ ap (frobenius f s) (field_product_comm f h inverse b ∙ one) ∙ frobenius-one f h one_small s)
      ∙ field_product-one f h lead below
