-- Composition with a polynomial of one term c·X^(2^k), and with 0: what a step of a division needs.
use Rattle.std.proofs.Common.{◌≡◌, ◌≢◌, ℕ, suc, ◌+◌, ◌-◌, ◌^◌, ◌<◌, List, [], ◌∷◌, ◌++◌, length, replicate, sym, ap, ◌∙◌, arith, inl, inr}
use Rattle.std.specs.Prelude.{slice_index}
use Rattle.std.proofs.lemmas.Bool.{cases_lt}
use Rattle.std.proofs.Math.ListN.{length-replicate}
use Rattle.std.proofs.lemmas.List.{get_or_past, get_or_at, get_or_append_left, get_or-replicate, length_push}
use Rattle.std.proofs.lemmas.List.Elements.{All-push, All-replicate}
use Rattle.std.proofs.Math.Pow.{pow_pos}
use Rattle.kk_field.specs.Field.{Modulus, field_product, frobenius}
use Rattle.kk_field.proofs.Residues.{field_product-zero, zero-field_product, frobenius-zero}
use Rattle.kk_linpoly.specs.LinPoly.{SamePolynomial, IsOver, composed, composition}
use Rattle.kk_linpoly.specs.Laws.{Leads}
use Rattle.kk_linpoly.proofs.XorSums.{xor_sum-none, xor_sum-single}
use Rattle.kk_linpoly.proofs.Coefficients.{slice_index-composition}

-- c·X^(2^k)
unfoldable pub monomial : ℕ → ℕ → List ℕ
monomial k c = replicate k 0 ++ c ∷ []

pub slice_index-monomial : (k c : ℕ) → slice_index (monomial k c) k ≡ c
unfolding monomial
slice_index-monomial k c = get_or_at (replicate k 0) c [] 0 k (length-replicate {A = ℕ} k 0)

pub length-monomial : (k c : ℕ) → length (monomial k c) ≡ k + 1
unfolding monomial
length-monomial k c = omega (arith, length_push (replicate k 0) c, length-replicate {A = ℕ} k 0)

pub slice_index-monomial_other : (k c i : ℕ) → i ≢ k → slice_index (monomial k c) i ≡ 0
unfolding monomial
slice_index-monomial_other k c i apart =
    elim (cases_lt i k) [
      | inl below ↦ get_or_append_left (replicate k 0) (c ∷ []) 0 i (omega (arith, length-replicate {A = ℕ} k 0)) ∙ get_or-replicate k i 0 0 below
      | inr above ↦ get_or_past (replicate k 0 ++ c ∷ []) i 0 (omega (arith, length_push (replicate k 0) c, length-replicate {A = ℕ} k 0))
    ]

pub IsOver-monomial : (m k c : ℕ) → c < 2 ^ m → IsOver m (monomial k c)
unfolding monomial
IsOver-monomial m k c below = All-push (λ x. x < 2 ^ m) (replicate k 0) c (All-replicate (λ x. x < 2 ^ m) k 0 (pow_pos m)) below

pub Leads-monomial : (k c : ℕ) → c ≢ 0 → Leads (monomial k c) k
Leads-monomial k c some = record {
  leading = λ e. some (sym (slice_index-monomial k c) ∙ e);
  past = λ i more. slice_index-monomial_other k c i (λ e. omega arith);
}

module _ (f : Modulus) (h : f.low < 2 ^ f.degree) where
  -- c has one term alone, at place k
  pub composed-one_term_left : (c d : ℕ → ℕ) (k j : ℕ) → ((i : ℕ) → i ≢ k → c i ≡ 0)
      → composed f c d (k + j) ≡ field_product f (c k) (frobenius f k (d j))
  composed-one_term_left c d k j others =
      let place : k + j - k ≡ j = omega arith in
      xor_sum-single (λ i. field_product f (c i) (frobenius f i (d (k + j - i)))) (suc (k + j)) k (omega arith)
      (λ i less apart. ap (λ x. field_product f x (frobenius f i (d (k + j - i)))) (others i apart) ∙ zero-field_product f h (frobenius f i (d (k + j - i))))
      ∙ ap (λ n. field_product f (c k) (frobenius f k (d n))) place

  pub composed-one_term_left_below : (c d : ℕ → ℕ) (k n : ℕ) → ((i : ℕ) → i ≢ k → c i ≡ 0) → n < k → composed f c d n ≡ 0
  composed-one_term_left_below c d k n others below =
      xor_sum-none _ (suc n)
      (λ i less. ap (λ x. field_product f x (frobenius f i (d (n - i)))) (others i (λ e. omega arith)) ∙ zero-field_product f h (frobenius f i (d (n - i))))

  -- d has one term alone, at place k
  pub composed-one_term_right : (c d : ℕ → ℕ) (k j : ℕ) → ((i : ℕ) → i ≢ k → d i ≡ 0)
      → composed f c d (j + k) ≡ field_product f (c j) (frobenius f j (d k))
  composed-one_term_right c d k j others =
      let place : j + k - j ≡ k = omega arith in
      xor_sum-single (λ i. field_product f (c i) (frobenius f i (d (j + k - i)))) (suc (j + k)) j (omega arith)
      (λ i less apart. ap (λ x. field_product f (c i) (frobenius f i x)) (others (j + k - i) (λ e. apart (omega arith)))
      ∙ ap (field_product f (c i)) (frobenius-zero f h i) ∙ field_product-zero f h (c i))
      ∙ ap (λ n. field_product f (c j) (frobenius f j (d n))) place

  pub composed-one_term_right_below : (c d : ℕ → ℕ) (k n : ℕ) → ((i : ℕ) → i ≢ k → d i ≡ 0) → n < k → composed f c d n ≡ 0
  composed-one_term_right_below c d k n others below =
      xor_sum-none _ (suc n)
      (λ i less. ap (λ x. field_product f (c i) (frobenius f i x)) (others (n - i) (λ e. omega arith))
      ∙ ap (field_product f (c i)) (frobenius-zero f h i) ∙ field_product-zero f h (c i))

  -- c·X^(2^k) after d: each coefficient of d goes k places up
  pub composition-monomial_left : (k c : ℕ) (ds : List ℕ) (j : ℕ)
      → slice_index (composition f (monomial k c) ds) (k + j) ≡ field_product f c (frobenius f k (slice_index ds j))
  composition-monomial_left k c ds j =
      slice_index-composition f h (monomial k c) ds (k + j)
      ∙ composed-one_term_left (slice_index (monomial k c)) (slice_index ds) k j (slice_index-monomial_other k c)
      ∙ ap (λ x. field_product f x (frobenius f k (slice_index ds j))) (slice_index-monomial k c)

  -- d after c·X^(2^k)
  pub composition-monomial_right : (k c : ℕ) (ds : List ℕ) (j : ℕ)
      → slice_index (composition f ds (monomial k c)) (j + k) ≡ field_product f (slice_index ds j) (frobenius f j c)
  composition-monomial_right k c ds j =
      slice_index-composition f h ds (monomial k c) (j + k)
      ∙ composed-one_term_right (slice_index ds) (slice_index (monomial k c)) k j (slice_index-monomial_other k c)
      ∙ ap (λ x. field_product f (slice_index ds j) (frobenius f j x)) (slice_index-monomial k c)

  pub composition-nil_left : (ds : List ℕ) → SamePolynomial (composition f [] ds) []
  composition-nil_left ds = record {
    coefficients = λ n. slice_index-composition f h [] ds n
        ∙ xor_sum-none _ (suc n) (λ i less. zero-field_product f h (frobenius f i (slice_index ds (n - i))));
  }

  pub composition-nil_right : (cs : List ℕ) → SamePolynomial (composition f cs []) []
  composition-nil_right cs = record {
    coefficients = λ n. slice_index-composition f h cs [] n
        ∙ xor_sum-none _ (suc n)
        (λ i less. ap (field_product f (slice_index cs i)) (frobenius-zero f h i) ∙ field_product-zero f h (slice_index cs i));
  }
