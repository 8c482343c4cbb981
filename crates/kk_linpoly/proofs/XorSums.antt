-- Sums of a term over the places below n.
use Rattle.std.proofs.Common.{◌≡◌, ◌≢◌, ℕ, zero, suc, add-one, ◌+◌, ◌^◌, ◌<◌, ◌≤◌, bit_xor, refl, sym, ap, ◌∙◌, arith, inl, inr}
use Rattle.std.proofs.Math.Nat.{add-zero, add-suc}
use Rattle.std.proofs.Math.Pow.{pow_pos}
use Rattle.std.proofs.lemmas.Bool.{cases_eq}
use Rattle.std.specs.Int.Bits.{xor_zero_l, xor_zero_r, xor_assoc, xor_comm, xor_self, xor_lt}
use Rattle.kk_field.proofs.Sums.{xor_xor_swap, move_right}
use Rattle.kk_linpoly.specs.LinPoly.{xor_sum}

pub xor_sum-same : (p q : ℕ → ℕ) (n : ℕ) → ((i : ℕ) → i < n → p i ≡ q i) → xor_sum p n ≡ xor_sum q n
unfolding xor_sum
xor_sum-same p q zero same = refl
xor_sum-same p q (suc n) same =
    ap (λ x. bit_xor x (p n)) (xor_sum-same p q n (λ i less. same i (omega arith)))
    ∙ ap (bit_xor (xor_sum q n)) (same n (omega arith))

-- terms that are all 0
pub xor_sum-none : (p : ℕ → ℕ) (n : ℕ) → ((i : ℕ) → i < n → p i ≡ 0) → xor_sum p n ≡ 0
unfolding xor_sum
xor_sum-none p zero none = refl
xor_sum-none p (suc n) none =
    ap (λ x. bit_xor x (p n)) (xor_sum-none p n (λ i less. none i (omega arith)))
    ∙ ap (bit_xor 0) (none n (omega arith))

pub xor_sum-xor : (p q : ℕ → ℕ) (n : ℕ) → xor_sum (λ i. bit_xor (p i) (q i)) n ≡ bit_xor (xor_sum p n) (xor_sum q n)
unfolding xor_sum
xor_sum-xor p q zero = refl
xor_sum-xor p q (suc n) =
    ap (λ x. bit_xor x (bit_xor (p n) (q n))) (xor_sum-xor p q n)
    ∙ xor_xor_swap (xor_sum p n) (xor_sum q n) (p n) (q n)

-- the first term apart
pub xor_sum-first : (p : ℕ → ℕ) (n : ℕ) → xor_sum p (suc n) ≡ bit_xor (p 0) (xor_sum (λ i. p (suc i)) n)
unfolding xor_sum
xor_sum-first p zero = xor_zero_l (p 0) ∙ sym (xor_zero_r (p 0))
xor_sum-first p (suc n) =
    ap (λ x. bit_xor x (p (suc n))) (xor_sum-first p n) ∙ xor_assoc (p 0) (xor_sum (λ i. p (suc i)) n) (p (suc n))

-- terms past place n that are 0
pub xor_sum-add : (p : ℕ → ℕ) (n k : ℕ) → ((i : ℕ) → n ≤ i → p i ≡ 0) → xor_sum p (n + k) ≡ xor_sum p n
unfolding xor_sum
xor_sum-add p n zero none = ap (xor_sum p) (add-zero n)
xor_sum-add p n (suc k) none =
    ap (xor_sum p) (add-suc n k) ∙ ap (bit_xor (xor_sum p (n + k))) (none (n + k) (omega arith))
    ∙ xor_zero_r (xor_sum p (n + k)) ∙ xor_sum-add p n k none

pub xor_sum-start : (p : ℕ → ℕ) → 0 ≡ xor_sum p 0
unfolding xor_sum
xor_sum-start p = refl

-- one term more
pub xor_sum-more : (p : ℕ → ℕ) (n : ℕ) → bit_xor (xor_sum p n) (p n) ≡ xor_sum p (n + 1)
unfolding xor_sum
xor_sum-more p n = ap (xor_sum p) (sym (add-one n))

-- the terms from place n on apart
pub xor_sum-split : (p : ℕ → ℕ) (n k : ℕ) → bit_xor (xor_sum p n) (xor_sum (λ i. p (n + i)) k) ≡ xor_sum p (n + k)
unfolding xor_sum
xor_sum-split p n zero = xor_zero_r (xor_sum p n) ∙ ap (xor_sum p) (sym (add-zero n))
xor_sum-split p n (suc k) =
    sym (xor_assoc (xor_sum p n) (xor_sum (λ i. p (n + i)) k) (p (n + k)))
    ∙ ap (λ x. bit_xor x (p (n + k))) (xor_sum-split p n k) ∙ ap (xor_sum p) (sym (add-suc n k))

-- rows first or columns first
pub xor_sum-swap : (p : ℕ → ℕ → ℕ) (n k : ℕ) → xor_sum (λ j. xor_sum (p j) n) k ≡ xor_sum (λ c. xor_sum (λ j. p j c) k) n
unfolding xor_sum
xor_sum-swap p n zero = sym (xor_sum-none (λ c. 0) n (λ c less. refl))
xor_sum-swap p n (suc k) =
    ap (λ x. bit_xor x (xor_sum (p k) n)) (xor_sum-swap p n k) ∙ sym (xor_sum-xor (λ c. xor_sum (λ j. p j c) k) (p k) n)

-- an additive map goes inside
pub xor_sum-mapped : (L : ℕ → ℕ) → L 0 ≡ 0 → ((a b : ℕ) → L (bit_xor a b) ≡ bit_xor (L a) (L b))
    → (p : ℕ → ℕ) (n : ℕ) → L (xor_sum p n) ≡ xor_sum (λ i. L (p i)) n
unfolding xor_sum
xor_sum-mapped L at_zero additive p zero = at_zero
xor_sum-mapped L at_zero additive p (suc n) =
    additive (xor_sum p n) (p n) ∙ ap (λ x. bit_xor x (L (p n))) (xor_sum-mapped L at_zero additive p n)

pub xor_sum-lt : (k : ℕ) (p : ℕ → ℕ) (n : ℕ) → ((i : ℕ) → i < n → p i < 2 ^ k) → xor_sum p n < 2 ^ k
unfolding xor_sum
xor_sum-lt k p zero below = pow_pos k
xor_sum-lt k p (suc n) below =
    xor_lt k (xor_sum p n) (p n) (xor_sum-lt k p n (λ i less. below i (omega arith))) (below n (omega arith))

-- one term alone isn't 0
pub xor_sum-single : (p : ℕ → ℕ) (n k : ℕ) → k < n → ((i : ℕ) → i < n → i ≢ k → p i ≡ 0) → xor_sum p n ≡ p k
unfolding xor_sum
xor_sum-single p zero k less others = absurd (omega arith)
xor_sum-single p (suc n) k less others =
    elim (cases_eq k n) [
      | inl last ↦
          ap (λ x. bit_xor x (p n)) (xor_sum-none p n (λ i below. others i (omega arith) (λ e. omega arith)))
          ∙ xor_zero_l (p n) ∙ ap p (sym last)
      | inr earlier ↦
          ap (bit_xor (xor_sum p n)) (others n (omega arith) (λ e. earlier (sym e))) ∙ xor_zero_r (xor_sum p n)
          ∙ xor_sum-single p n k (omega arith) (λ i below apart. others i (omega arith) apart)
    ]

-- terms that differ at one place alone, where one of them is 0
pub xor_sum-differs : (p q : ℕ → ℕ) (n k : ℕ) → k < n → ((i : ℕ) → i < n → i ≢ k → p i ≡ q i) → q k ≡ 0
    → xor_sum p n ≡ bit_xor (xor_sum q n) (p k)
xor_sum-differs p q n k less same none =
    move_right (xor_sum p n) (xor_sum q n) (p k)
    (sym (xor_sum-xor p q n)
    ∙ xor_sum-single (λ i. bit_xor (p i) (q i)) n k less (λ i below apart. ap (λ x. bit_xor x (q i)) (same i below apart) ∙ xor_self (q i))
    ∙ ap (bit_xor (p k)) none ∙ xor_zero_r (p k))
    ∙ xor_comm (p k) (xor_sum q n)
