-- One more term of a factor of a composition: q' has it at place s, where q is 0.
use Rattle.std.proofs.Common.{◌≡◌, ◌≢◌, ℕ, suc, ◌+◌, ◌-◌, ◌^◌, ◌<◌, bit_xor, ap, ◌∙◌, arith}
use Rattle.kk_field.specs.Field.{Modulus, field_product, frobenius}
use Rattle.kk_field.proofs.Residues.{field_product-zero, zero-field_product, frobenius-zero}
use Rattle.kk_linpoly.specs.LinPoly.{composed}
use Rattle.kk_linpoly.proofs.XorSums.{xor_sum-same, xor_sum-none, xor_sum-differs}

pub composed-same : (f : Modulus) (c c' d d' : ℕ → ℕ) → ((i : ℕ) → c i ≡ c' i) → ((j : ℕ) → d j ≡ d' j) → (n : ℕ)
    → composed f c d n ≡ composed f c' d' n
composed-same f c c' d d' same_c same_d n =
    xor_sum-same _ _ (suc n)
    (λ i less. ap (λ x. field_product f x (frobenius f i (d (n - i)))) (same_c i)
    ∙ ap (λ x. field_product f (c' i) (frobenius f i x)) (same_d (n - i)))

module _ (f : Modulus) (h : f.low < 2 ^ f.degree) where
  -- nothing changes before its place
  pub composed-term_right_before : (b q q' : ℕ → ℕ) (s n : ℕ) → ((i : ℕ) → i ≢ s → q' i ≡ q i) → n < s
      → composed f b q' n ≡ composed f b q n
  composed-term_right_before b q q' s n others before =
      xor_sum-same _ _ (suc n)
      (λ i less. ap (λ x. field_product f (b i) (frobenius f i x)) (others (n - i) (λ e. omega arith)))

  pub composed-term_right : (b q q' : ℕ → ℕ) (s j : ℕ) → ((i : ℕ) → i ≢ s → q' i ≡ q i) → q s ≡ 0
      → composed f b q' (s + j) ≡ bit_xor (composed f b q (s + j)) (field_product f (b j) (frobenius f j (q' s)))
  composed-term_right b q q' s j others free =
      let place : s + j - j ≡ s = omega arith in
      xor_sum-differs (λ i. field_product f (b i) (frobenius f i (q' (s + j - i))))
      (λ i. field_product f (b i) (frobenius f i (q (s + j - i)))) (suc (s + j)) j (omega arith)
      (λ i below apart. ap (λ x. field_product f (b i) (frobenius f i x)) (others (s + j - i) (λ e. apart (omega arith))))
      (ap (λ k. field_product f (b j) (frobenius f j (q k))) place ∙ ap (λ x. field_product f (b j) (frobenius f j x)) free
      ∙ ap (field_product f (b j)) (frobenius-zero f h j) ∙ field_product-zero f h (b j))
      ∙ ap (λ k. bit_xor (composed f b q (s + j)) (field_product f (b j) (frobenius f j (q' k)))) place

  pub composed-term_left_before : (q q' b : ℕ → ℕ) (s n : ℕ) → ((i : ℕ) → i ≢ s → q' i ≡ q i) → n < s
      → composed f q' b n ≡ composed f q b n
  composed-term_left_before q q' b s n others before =
      xor_sum-same _ _ (suc n)
      (λ i less. ap (λ x. field_product f x (frobenius f i (b (n - i)))) (others i (λ e. omega arith)))

  pub composed-term_left : (q q' b : ℕ → ℕ) (s j : ℕ) → ((i : ℕ) → i ≢ s → q' i ≡ q i) → q s ≡ 0
      → composed f q' b (s + j) ≡ bit_xor (composed f q b (s + j)) (field_product f (q' s) (frobenius f s (b j)))
  composed-term_left q q' b s j others free =
      let place : s + j - s ≡ j = omega arith in
      xor_sum-differs (λ i. field_product f (q' i) (frobenius f i (b (s + j - i))))
      (λ i. field_product f (q i) (frobenius f i (b (s + j - i)))) (suc (s + j)) s (omega arith)
      (λ i below apart. ap (λ x. field_product f x (frobenius f i (b (s + j - i)))) (others i apart))
      (ap (λ x. field_product f x (frobenius f s (b (s + j - s)))) free ∙ zero-field_product f h (frobenius f s (b (s + j - s))))
      ∙ ap (λ k. bit_xor (composed f q b (s + j)) (field_product f (q' s) (frobenius f s (b k)))) place

  -- a factor that is zero
  pub composed-none_right : (b q : ℕ → ℕ) → ((i : ℕ) → q i ≡ 0) → (n : ℕ) → composed f b q n ≡ 0
  composed-none_right b q none n =
      xor_sum-none _ (suc n)
      (λ i less. ap (λ x. field_product f (b i) (frobenius f i x)) (none (n - i)) ∙ ap (field_product f (b i)) (frobenius-zero f h i)
      ∙ field_product-zero f h (b i))

  pub composed-none_left : (q b : ℕ → ℕ) → ((i : ℕ) → q i ≡ 0) → (n : ℕ) → composed f q b n ≡ 0
  composed-none_left q b none n =
      xor_sum-none _ (suc n)
      (λ i less. ap (λ x. field_product f x (frobenius f i (b (n - i)))) (none i) ∙ zero-field_product f h (frobenius f i (b (n - i))))
