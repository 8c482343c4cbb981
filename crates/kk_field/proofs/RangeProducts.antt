-- Products of residues over 1, .., n: a permutation of the factors leaves the product as it is.
use Rattle.std.proofs.Common.{◌≡◌, ℕ, zero, suc, ◌^◌, ◌<◌, ◌≤◌, cond, eqb, refl, sym, ap, ◌∙◌, arith, inl, inr}
use Rattle.std.proofs.lemmas.Bool.{cases_eq, eq-eqb, ne_eqb}
use Rattle.kk_field.proofs.Residues.{field_product-below, field_product_swap, field_product-one, one-field_product}
use Rattle.kk_field.specs.Field.{Modulus, field_product}

-- g 1 · g 2 · .. · g n
unfoldable pub range_product : Modulus → (ℕ → ℕ) → ℕ → ℕ
range_product f g zero = 1
range_product f g (suc n) = field_product f (range_product f g n) (g (suc n))

-- v at place k, and 1 elsewhere
pub at_place : ℕ → ℕ → ℕ → ℕ
at_place k v y = cond (eqb k y) v 1

at_place-same : (k v y : ℕ) → k ≡ y → at_place k v y ≡ v
unfolding at_place
at_place-same k v y e = ap (λ b. cond b v 1) (eq-eqb k y e)

at_place-other : (k v y : ℕ) → (k ≡ y → ⊥) → at_place k v y ≡ 1
unfolding at_place
at_place-other k v y apart = ap (λ b. cond b v 1) (ne_eqb k y apart)

-- there and back permute 1, .., n, and undo each other
pub record Permutes (there back : ℕ → ℕ) (n : ℕ) : Type 0 where
  pub low : (x : ℕ) → 1 ≤ x → x ≤ n → 1 ≤ there x
  pub high : (x : ℕ) → 1 ≤ x → x ≤ n → there x ≤ n
  pub back_low : (y : ℕ) → 1 ≤ y → y ≤ n → 1 ≤ back y
  pub back_high : (y : ℕ) → 1 ≤ y → y ≤ n → back y ≤ n
  pub returns : (x : ℕ) → 1 ≤ x → x ≤ n → back (there x) ≡ x
  pub reaches : (y : ℕ) → 1 ≤ y → y ≤ n → there (back y) ≡ y

-- the places of y, by columns
at_place_turned : (g there back : ℕ → ℕ) (n : ℕ) → Permutes there back n → (x y : ℕ) → 1 ≤ x → x ≤ n → 1 ≤ y → y ≤ n
    → at_place (there x) (g (there x)) y ≡ at_place (back y) (g y) x
at_place_turned g there back n p x y xl xh yl yh =
    elim (cases_eq (there x) y) [
      | inl e ↦ at_place-same (there x) (g (there x)) y e ∙ ap g e ∙ sym (at_place-same (back y) (g y) x (ap back (sym e) ∙ p.returns x xl xh))
      | inr apart ↦ at_place-other (there x) (g (there x)) y apart
          ∙ sym (at_place-other (back y) (g y) x (λ e. apart (ap there (sym e) ∙ p.reaches y yl yh)))
    ]

module _ (f : Modulus) (h : f.low < 2 ^ f.degree) (one : 1 < 2 ^ f.degree) where
  pub range_product-below : (g : ℕ → ℕ) (n : ℕ) → range_product f g n < 2 ^ f.degree
  unfolding range_product
  range_product-below g zero = one
  range_product-below g (suc n) = field_product-below f h (range_product f g n) (g (suc n))

  pub range_product-same : (g k : ℕ → ℕ) (n : ℕ) → ((x : ℕ) → 1 ≤ x → x ≤ n → g x ≡ k x) → range_product f g n ≡ range_product f k n
  unfolding range_product
  range_product-same g k zero e = refl
  range_product-same g k (suc n) e =
      ap (λ x. field_product f x (g (suc n))) (range_product-same g k n (λ x low high. e x low (omega arith)))
      ∙ ap (field_product f (range_product f k n)) (e (suc n) (omega arith) (omega arith))

  pub range_product-ones : (n : ℕ) → range_product f (λ x. 1) n ≡ 1
  unfolding range_product
  range_product-ones zero = refl
  range_product-ones (suc n) = ap (λ x. field_product f x 1) (range_product-ones n) ∙ field_product-one f h 1 one

  pub range_product-field_product : (g k : ℕ → ℕ) (n : ℕ)
      → range_product f (λ x. field_product f (g x) (k x)) n ≡ field_product f (range_product f g n) (range_product f k n)
  unfolding range_product
  range_product-field_product g k zero = sym (field_product-one f h 1 one)
  range_product-field_product g k (suc n) =
      ap (λ x. field_product f x (field_product f (g (suc n)) (k (suc n)))) (range_product-field_product g k n)
      ∙ field_product_swap f h (range_product f g n) (range_product f k n) (g (suc n)) (k (suc n))

  -- rows and columns change places
  pub range_product_swap : (g : ℕ → ℕ → ℕ) (m n : ℕ)
      → range_product f (λ x. range_product f (λ y. g x y) n) m ≡ range_product f (λ y. range_product f (λ x. g x y) m) n
  unfolding range_product
  range_product_swap g zero n = sym (range_product-ones n)
  range_product_swap g (suc m) n =
      ap (λ x. field_product f x (range_product f (λ y. g (suc m) y) n)) (range_product_swap g m n)
      ∙ sym (range_product-field_product (λ y. range_product f (λ x. g x y) m) (λ y. g (suc m) y) n)

  pub range_product-at_place : (k v n : ℕ) → v < 2 ^ f.degree → 1 ≤ k → k ≤ n → range_product f (at_place k v) n ≡ v
  unfolding range_product
  range_product-at_place k v zero v_below low high = absurd (omega arith)
  range_product-at_place k v (suc n) v_below low high =
      elim (cases_eq k (suc n)) [
        | inl last ↦
            ap (λ x. field_product f x (at_place k v (suc n)))
            (range_product-same (at_place k v) (λ x. 1) n (λ x l u. at_place-other k v x (λ e. omega arith)) ∙ range_product-ones n)
            ∙ ap (field_product f 1) (at_place-same k v (suc n) last)
            ∙ one-field_product f h v v_below
        | inr earlier ↦
            ap (field_product f (range_product f (at_place k v) n)) (at_place-other k v (suc n) earlier)
            ∙ field_product-one f h (range_product f (at_place k v) n) (range_product-below (at_place k v) n)
            ∙ range_product-at_place k v n v_below low (omega arith)
      ]

  -- the factors in another order
  pub range_product-permuted : (g there back : ℕ → ℕ) (n : ℕ) → Permutes there back n
      → ((y : ℕ) → 1 ≤ y → y ≤ n → g y < 2 ^ f.degree)
      → range_product f (λ x. g (there x)) n ≡ range_product f g n
  range_product-permuted g there back n p g_below =
      range_product-same (λ x. g (there x)) (λ x. range_product f (at_place (there x) (g (there x))) n) n
      (λ x l u. sym (range_product-at_place (there x) (g (there x)) n (g_below (there x) (p.low x l u) (p.high x l u)) (p.low x l u) (p.high x l u)))
      ∙ range_product_swap (λ x y. at_place (there x) (g (there x)) y) n n
      ∙ range_product-same (λ y. range_product f (λ x. at_place (there x) (g (there x)) y) n) g n
      (λ y l u.
      range_product-same (λ x. at_place (there x) (g (there x)) y) (at_place (back y) (g y)) n
      (λ x xl xh. at_place_turned g there back n p x y xl xh l u)
      ∙ range_product-at_place (back y) (g y) n (g_below y l u) (p.back_low y l u) (p.back_high y l u))
