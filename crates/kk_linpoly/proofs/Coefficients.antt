-- Coefficients of sums, multiples and compositions.
use Rattle.std.proofs.Common.{◌≡◌, ℕ, zero, suc, ◌+◌, ◌-◌, ◌^◌, ◌<◌, ◌≤◌, List, [], ◌∷◌, length, map, max, bit_xor, refl, sym, ap, ◌∙◌, arith, subst, inl, inr}
use Rattle.std.specs.Prelude.{slice_index}
use Rattle.std.proofs.Math.Pow.{pow_pos}
use Rattle.std.proofs.lemmas.Bool.{cases_lt}
use Rattle.std.proofs.lemmas.List.{get_or_past}
use Rattle.std.proofs.lemmas.List.FromFn.{length-map-range_with_len, get_or-map-range_with_len}
use Rattle.std.proofs.lemmas.List.Elements.{All-cons, All-from_get_or}
use Rattle.std.specs.Int.Bits.{xor_zero_l, xor_zero_r, xor_lt}
use Rattle.kk_field.specs.Field.{Modulus, field_product, frobenius}
use Rattle.kk_field.proofs.Residues.{field_product-below, field_product-zero, zero-field_product, frobenius-zero}
use Rattle.kk_linpoly.specs.LinPoly.{SamePolynomial, IsOver, sum_of, scaled, composed, composition, squared_up}
use Rattle.kk_linpoly.proofs.XorSums.{xor_sum-none, xor_sum-lt}

-- each coefficient of a polynomial of the field, also past the end
pub coefficient-lt : (m : ℕ) (cs : List ℕ) → IsOver m cs → (i : ℕ) → slice_index cs i < 2 ^ m
coefficient-lt m cs over i =
    elim (cases_lt i (length cs)) [
      | inl within ↦ over i 0 within
      | inr past ↦ rw (get_or_past cs i 0 past) (pow_pos m)
    ]

pub IsOver-from : (m : ℕ) (cs : List ℕ) → ((i : ℕ) → slice_index cs i < 2 ^ m) → IsOver m cs
IsOver-from m cs below = All-from_get_or (λ c. c < 2 ^ m) cs 0 (λ i within. below i)

pub IsOver-same : (m : ℕ) (cs ds : List ℕ) → SamePolynomial cs ds → IsOver m cs → IsOver m ds
IsOver-same m cs ds h over = IsOver-from m ds (λ i. subst (λ x. x < 2 ^ m) (h.coefficients i) (coefficient-lt m cs over i))

-- ---- sums

pub slice_index-sum_of : (cs ds : List ℕ) (i : ℕ) → slice_index (sum_of cs ds) i ≡ bit_xor (slice_index cs i) (slice_index ds i)
unfolding sum_of
slice_index-sum_of [] ds i = sym (xor_zero_l (slice_index ds i))
slice_index-sum_of (c ∷ cs) [] i = sym (xor_zero_r (slice_index (c ∷ cs) i))
slice_index-sum_of (c ∷ cs) (d ∷ ds) zero = refl
slice_index-sum_of (c ∷ cs) (d ∷ ds) (suc i) = slice_index-sum_of cs ds i

pub length-sum_of : (cs ds : List ℕ) → length ds ≤ length cs → length (sum_of cs ds) ≡ length cs
unfolding sum_of
length-sum_of [] [] h = refl
length-sum_of [] (d ∷ ds) h = absurd (omega arith)
length-sum_of (c ∷ cs) [] h = refl
length-sum_of (c ∷ cs) (d ∷ ds) h = ap suc (length-sum_of cs ds (omega arith))

pub length-sum_of_max : (cs ds : List ℕ) → length (sum_of cs ds) ≡ max (length cs) (length ds)
unfolding sum_of
length-sum_of_max [] ds = omega arith
length-sum_of_max (c ∷ cs) [] = omega arith
length-sum_of_max (c ∷ cs) (d ∷ ds) = omega (arith, length-sum_of_max cs ds)

pub IsOver-sum_of : (m : ℕ) (cs ds : List ℕ) → IsOver m cs → IsOver m ds → IsOver m (sum_of cs ds)
IsOver-sum_of m cs ds c_over d_over =
    IsOver-from m (sum_of cs ds)
    (λ i. subst (λ x. x < 2 ^ m) (sym (slice_index-sum_of cs ds i))
    (xor_lt m (slice_index cs i) (slice_index ds i) (coefficient-lt m cs c_over i) (coefficient-lt m ds d_over i)))

-- ---- multiples, squares and compositions

pub length-composition : (f : Modulus) (cs ds : List ℕ) → length (composition f cs ds) ≡ length cs + length ds - 1
unfolding composition
length-composition f cs ds =
    length-map-range_with_len (composed f (slice_index cs) (slice_index ds)) 0 (length cs + length ds - 1)

module _ (f : Modulus) (h : f.low < 2 ^ f.degree) where
  pub slice_index-scaled : (a : ℕ) (cs : List ℕ) (i : ℕ) → slice_index (scaled f a cs) i ≡ field_product f a (slice_index cs i)
  slice_index-scaled a [] i = sym (field_product-zero f h a)
  slice_index-scaled a (c ∷ cs) zero = refl
  slice_index-scaled a (c ∷ cs) (suc i) = slice_index-scaled a cs i

  pub slice_index-squares : (cs : List ℕ) (i : ℕ)
      → slice_index (map (λ c. field_product f c c) cs) i ≡ field_product f (slice_index cs i) (slice_index cs i)
  slice_index-squares [] i = sym (field_product-zero f h 0)
  slice_index-squares (c ∷ cs) zero = refl
  slice_index-squares (c ∷ cs) (suc i) = slice_index-squares cs i

  pub IsOver-scaled : (a : ℕ) (cs : List ℕ) → IsOver f.degree (scaled f a cs)
  IsOver-scaled a cs =
      IsOver-from f.degree (scaled f a cs)
      (λ i. subst (λ x. x < 2 ^ f.degree) (sym (slice_index-scaled a cs i)) (field_product-below f h a (slice_index cs i)))

  pub IsOver-squared_up : (cs : List ℕ) → IsOver f.degree (squared_up f cs)
  IsOver-squared_up cs =
      let squares = map (λ c. field_product f c c) cs in
      All-cons (λ c. c < 2 ^ f.degree) 0 squares (pow_pos f.degree)
      (IsOver-from f.degree squares
      (λ i. subst (λ x. x < 2 ^ f.degree) (sym (slice_index-squares cs i)) (field_product-below f h (slice_index cs i) (slice_index cs i))))

  pub composed-lt : (c d : ℕ → ℕ) (n : ℕ) → composed f c d n < 2 ^ f.degree
  composed-lt c d n = xor_sum-lt f.degree _ (suc n) (λ i less. field_product-below f h (c i) (frobenius f i (d (n - i))))

  -- past the degrees there is nothing
  pub composed-past : (c d : ℕ → ℕ) (j k n : ℕ) → ((i : ℕ) → j ≤ i → c i ≡ 0) → ((i : ℕ) → k ≤ i → d i ≡ 0)
      → j + k - 1 ≤ n → composed f c d n ≡ 0
  composed-past c d j k n c_past d_past past =
      xor_sum-none _ (suc n)
      (λ i less. elim (cases_lt i j) [
        | inl within ↦
            ap (λ x. field_product f (c i) (frobenius f i x)) (d_past (n - i) (omega arith))
            ∙ ap (field_product f (c i)) (frobenius-zero f h i) ∙ field_product-zero f h (c i)
        | inr beyond ↦ ap (λ x. field_product f x (frobenius f i (d (n - i)))) (c_past i beyond) ∙ zero-field_product f h (frobenius f i (d (n - i)))
      ])

  -- composition by coefficients, also past the end
  pub slice_index-composition : (cs ds : List ℕ) (n : ℕ)
      → slice_index (composition f cs ds) n ≡ composed f (slice_index cs) (slice_index ds) n
  unfolding composition
  slice_index-composition cs ds n =
      let c = slice_index cs in
      let d = slice_index ds in
      let count = length cs + length ds - 1 in
      elim (cases_lt n count) [
        | inl within ↦ get_or-map-range_with_len (composed f c d) 0 count n n 0 within (omega arith)
        | inr past ↦
            get_or_past (composition f cs ds) n 0 (omega (arith, length-composition f cs ds))
            ∙ sym (composed-past c d (length cs) (length ds) n (λ i. get_or_past cs i 0) (λ i. get_or_past ds i 0) past)
      ]

  pub IsOver-composition : (cs ds : List ℕ) → IsOver f.degree (composition f cs ds)
  IsOver-composition cs ds =
      IsOver-from f.degree (composition f cs ds)
      (λ n. subst (λ x. x < 2 ^ f.degree) (sym (slice_index-composition cs ds n)) (composed-lt (slice_index cs) (slice_index ds) n))
