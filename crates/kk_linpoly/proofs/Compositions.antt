-- The laws of composition, by coefficients.
use Rattle.std.proofs.Common.{◌≡◌, ℕ, zero, suc, ◌-◌, ◌^◌, ◌<◌, List, [], ◌∷◌, bit_xor, refl, sym, ap, ◌∙◌, arith}
use Rattle.std.specs.Prelude.{slice_index}
use Rattle.std.proofs.Math.Nat.{sub-zero}
use Rattle.std.proofs.Math.Numerals.{add-one}
use Rattle.std.specs.Int.Bits.{xor_zero_l, xor_zero_r}
use Rattle.kk_field.specs.Field.{Modulus, field_product, frobenius}
use Rattle.kk_field.proofs.Residues.{field_product-below, field_product-zero, zero-field_product, one-field_product, field_product-one, field_product_assoc, field_product_swap, field_product-xor, xor-field_product, square-xor_residues, frobenius-xor, frobenius-field_product, frobenius-zero, frobenius-one, frobenius-add}
use Rattle.kk_linpoly.specs.LinPoly.{SamePolynomial, IsOver, sum_of, scaled, xor_sum, composed, composition, squared_up}
use Rattle.kk_linpoly.proofs.XorSums.{xor_sum-same, xor_sum-none, xor_sum-xor, xor_sum-first, xor_sum-mapped, xor_sum-single}
use Rattle.kk_linpoly.proofs.Coefficients.{coefficient-lt, slice_index-sum_of, slice_index-scaled, slice_index-squares, slice_index-composition}

-- coefficients one place up
unfoldable pub up : (ℕ → ℕ) → ℕ → ℕ
up c zero = 0
up c (suc n) = c n

pub up-same : (c d : ℕ → ℕ) → ((i : ℕ) → c i ≡ d i) → (n : ℕ) → up c n ≡ up d n
unfolding up
up-same c d same zero = refl
up-same c d same (suc n) = same n

pub frobenius-suc : (f : Modulus) → f.low < 2 ^ f.degree → (i a : ℕ) → frobenius f (suc i) a ≡ frobenius f i (field_product f a a)
unfolding frobenius
frobenius-suc f h i a = ap (λ k. frobenius f k a) (sym (add-one i)) ∙ frobenius-add f h i 1 a

-- each coefficient squared
unfoldable pub squares : Modulus → (ℕ → ℕ) → ℕ → ℕ
squares f c i = field_product f (c i) (c i)

-- ---- the laws at any coefficients

pub composed-same : (f : Modulus) (c c' d d' : ℕ → ℕ) → ((i : ℕ) → c i ≡ c' i) → ((j : ℕ) → d j ≡ d' j) → (n : ℕ)
    → composed f c d n ≡ composed f c' d' n
composed-same f c c' d d' same_c same_d n =
    xor_sum-same _ _ (suc n)
    (λ i less. ap (λ x. field_product f x (frobenius f i (d (n - i)))) (same_c i)
    ∙ ap (λ x. field_product f (c' i) (frobenius f i x)) (same_d (n - i)))

module _ (f : Modulus) (h : f.low < 2 ^ f.degree) where
  pub composed-at_zero : (c d : ℕ → ℕ) → composed f c d 0 ≡ field_product f (c 0) (d 0)
  unfolding xor_sum frobenius
  composed-at_zero c d = xor_zero_l (field_product f (c 0) (d 0))

  composed-at_suc : (c d : ℕ → ℕ) (n : ℕ)
      → composed f c d (suc n) ≡ bit_xor (field_product f (c 0) (d (suc n))) (composed f (λ i. c (suc i)) (squares f d) n)
  unfolding frobenius squares
  composed-at_suc c d n =
      xor_sum-first (λ i. field_product f (c i) (frobenius f i (d (suc n - i)))) (suc n)
      ∙ ap (λ k. bit_xor (field_product f (c 0) (d k)) (xor_sum (λ i. field_product f (c (suc i)) (frobenius f (suc i) (d (suc n - suc i)))) (suc n)))
      (sub-zero (suc n))
      ∙ ap (bit_xor (field_product f (c 0) (d (suc n))))
      (xor_sum-same _ _ (suc n)
      (λ i less.
      let place : suc n - suc i ≡ n - i = omega arith in
      ap (λ k. field_product f (c (suc i)) (frobenius f (suc i) (d k))) place
      ∙ ap (field_product f (c (suc i))) (frobenius-suc f h i (d (n - i)))))

  -- the first coefficient of c apart
  pub composed-first : (c d : ℕ → ℕ) (n : ℕ)
      → composed f c d n ≡ bit_xor (field_product f (c 0) (d n)) (up (composed f (λ i. c (suc i)) (squares f d)) n)
  unfolding up
  composed-first c d zero = composed-at_zero c d ∙ sym (xor_zero_r (field_product f (c 0) (d 0)))
  composed-first c d (suc n) = composed-at_suc c d n

  pub composed-xor_left : (c c' d : ℕ → ℕ) (n : ℕ)
      → composed f (λ i. bit_xor (c i) (c' i)) d n ≡ bit_xor (composed f c d n) (composed f c' d n)
  composed-xor_left c c' d n =
      xor_sum-same _ _ (suc n) (λ i less. xor-field_product f h (c i) (c' i) (frobenius f i (d (n - i))))
      ∙ xor_sum-xor (λ i. field_product f (c i) (frobenius f i (d (n - i)))) (λ i. field_product f (c' i) (frobenius f i (d (n - i)))) (suc n)

  pub composed-xor_right : (c d d' : ℕ → ℕ) (n : ℕ)
      → composed f c (λ j. bit_xor (d j) (d' j)) n ≡ bit_xor (composed f c d n) (composed f c d' n)
  composed-xor_right c d d' n =
      xor_sum-same _ _ (suc n)
      (λ i less. ap (field_product f (c i)) (frobenius-xor f h i (d (n - i)) (d' (n - i)))
      ∙ field_product-xor f h (c i) (frobenius f i (d (n - i))) (frobenius f i (d' (n - i))))
      ∙ xor_sum-xor (λ i. field_product f (c i) (frobenius f i (d (n - i)))) (λ i. field_product f (c i) (frobenius f i (d' (n - i)))) (suc n)

  pub composed-scaled_left : (a : ℕ) (c d : ℕ → ℕ) (n : ℕ)
      → composed f (λ i. field_product f a (c i)) d n ≡ field_product f a (composed f c d n)
  composed-scaled_left a c d n =
      xor_sum-same _ _ (suc n) (λ i less. field_product_assoc f h a (c i) (frobenius f i (d (n - i))))
      ∙ sym (xor_sum-mapped (field_product f a) (field_product-zero f h a) (field_product-xor f h a)
      (λ i. field_product f (c i) (frobenius f i (d (n - i)))) (suc n))

  -- 0 before c
  pub composed-up_left : (c d : ℕ → ℕ) (n : ℕ) → composed f (up c) d n ≡ up (composed f c (squares f d)) n
  unfolding up
  composed-up_left c d n =
      composed-first (up c) d n
      ∙ ap (λ x. bit_xor x (up (composed f c (squares f d)) n)) (zero-field_product f h (d n))
      ∙ xor_zero_l (up (composed f c (squares f d)) n)

  pub composed-squares : (c d : ℕ → ℕ) (n : ℕ) → composed f (squares f c) (squares f d) n ≡ squares f (composed f c d) n
  unfolding squares
  composed-squares c d n =
      xor_sum-same _ _ (suc n)
      (λ i less.
      let y = d (n - i) in
      ap (field_product f (field_product f (c i) (c i))) (frobenius-field_product f h i y y)
      ∙ field_product_swap f h (c i) (c i) (frobenius f i y) (frobenius f i y))
      ∙ sym (xor_sum-mapped (λ x. field_product f x x) (field_product-zero f h 0) (square-xor_residues f h)
      (λ i. field_product f (c i) (frobenius f i (d (n - i)))) (suc n))

  assoc_step : (c d e : ℕ → ℕ) (n : ℕ)
      → up (composed f (composed f (λ i. c (suc i)) (squares f d)) (squares f e)) n ≡ up (composed f (λ i. c (suc i)) (squares f (composed f d e))) n
      → composed f (composed f c d) e n ≡ composed f c (composed f d e) n
  assoc_step c d e n rest_assoc =
      let rest = composed f (λ i. c (suc i)) (squares f d) in
      composed-same f (composed f c d) (λ i. bit_xor (field_product f (c 0) (d i)) (up rest i)) e e (composed-first c d) (λ j. refl) n
      ∙ composed-xor_left (λ i. field_product f (c 0) (d i)) (up rest) e n
      ∙ ap (λ x. bit_xor x (composed f (up rest) e n)) (composed-scaled_left (c 0) d e n)
      ∙ ap (bit_xor (field_product f (c 0) (composed f d e n))) (composed-up_left rest e n ∙ rest_assoc)
      ∙ sym (composed-first c (composed f d e) n)

  -- associative
  pub composed_assoc : (c d e : ℕ → ℕ) (n : ℕ) → composed f (composed f c d) e n ≡ composed f c (composed f d e) n
  unfolding up
  composed_assoc c d e zero = assoc_step c d e zero refl
  composed_assoc c d e (suc n) =
      assoc_step c d e (suc n)
      (composed_assoc (λ i. c (suc i)) (squares f d) (squares f e) n
      ∙ composed-same f (λ i. c (suc i)) (λ i. c (suc i)) (composed f (squares f d) (squares f e)) (squares f (composed f d e))
      (λ i. refl) (composed-squares d e) n)

  -- ---- the same of lists

  pub SamePolynomial-composition : (cs cs' ds ds' : List ℕ) → SamePolynomial cs cs' → SamePolynomial ds ds'
      → SamePolynomial (composition f cs ds) (composition f cs' ds')
  SamePolynomial-composition cs cs' ds ds' c_same d_same = record {
    coefficients = λ n. slice_index-composition f h cs ds n
        ∙ composed-same f (slice_index cs) (slice_index cs') (slice_index ds) (slice_index ds') c_same.coefficients d_same.coefficients n
        ∙ sym (slice_index-composition f h cs' ds' n);
  }

  pub composition_assoc : (cs ds es : List ℕ)
      → SamePolynomial (composition f (composition f cs ds) es) (composition f cs (composition f ds es))
  composition_assoc cs ds es =
      let c = slice_index cs in
      let d = slice_index ds in
      let e = slice_index es in
      record {
        coefficients = λ n. slice_index-composition f h (composition f cs ds) es n
            ∙ composed-same f (slice_index (composition f cs ds)) (composed f c d) e e (slice_index-composition f h cs ds) (λ j. refl) n
            ∙ composed_assoc c d e n
            ∙ composed-same f c c (composed f d e) (slice_index (composition f ds es)) (λ i. refl) (λ j. sym (slice_index-composition f h ds es j)) n
            ∙ sym (slice_index-composition f h cs (composition f ds es) n);
      }

  pub composition-sum_left : (cs cs' ds : List ℕ)
      → SamePolynomial (composition f (sum_of cs cs') ds) (sum_of (composition f cs ds) (composition f cs' ds))
  composition-sum_left cs cs' ds =
      let c = slice_index cs in
      let c' = slice_index cs' in
      let d = slice_index ds in
      record {
        coefficients = λ n. slice_index-composition f h (sum_of cs cs') ds n
            ∙ composed-same f (slice_index (sum_of cs cs')) (λ i. bit_xor (c i) (c' i)) d d (slice_index-sum_of cs cs') (λ j. refl) n
            ∙ composed-xor_left c c' d n
            ∙ ap (λ x. bit_xor x (composed f c' d n)) (sym (slice_index-composition f h cs ds n))
            ∙ ap (bit_xor (slice_index (composition f cs ds) n)) (sym (slice_index-composition f h cs' ds n))
            ∙ sym (slice_index-sum_of (composition f cs ds) (composition f cs' ds) n);
      }

  pub composition-sum_right : (cs ds ds' : List ℕ)
      → SamePolynomial (composition f cs (sum_of ds ds')) (sum_of (composition f cs ds) (composition f cs ds'))
  composition-sum_right cs ds ds' =
      let c = slice_index cs in
      let d = slice_index ds in
      let d' = slice_index ds' in
      record {
        coefficients = λ n. slice_index-composition f h cs (sum_of ds ds') n
            ∙ composed-same f c c (slice_index (sum_of ds ds')) (λ i. bit_xor (d i) (d' i)) (λ j. refl) (slice_index-sum_of ds ds') n
            ∙ composed-xor_right c d d' n
            ∙ ap (λ x. bit_xor x (composed f c d' n)) (sym (slice_index-composition f h cs ds n))
            ∙ ap (bit_xor (slice_index (composition f cs ds) n)) (sym (slice_index-composition f h cs ds' n))
            ∙ sym (slice_index-sum_of (composition f cs ds) (composition f cs ds') n);
      }

  pub composition-scaled_left : (a : ℕ) (cs ds : List ℕ)
      → SamePolynomial (composition f (scaled f a cs) ds) (scaled f a (composition f cs ds))
  composition-scaled_left a cs ds =
      let c = slice_index cs in
      let d = slice_index ds in
      record {
        coefficients = λ n. slice_index-composition f h (scaled f a cs) ds n
            ∙ composed-same f (slice_index (scaled f a cs)) (λ i. field_product f a (c i)) d d (slice_index-scaled f h a cs) (λ j. refl) n
            ∙ composed-scaled_left a c d n
            ∙ ap (field_product f a) (sym (slice_index-composition f h cs ds n))
            ∙ sym (slice_index-scaled f h a (composition f cs ds) n);
      }

  slice_index-squared_up : (cs : List ℕ) (n : ℕ) → slice_index (squared_up f cs) n ≡ up (squares f (slice_index cs)) n
  unfolding up squares
  slice_index-squared_up cs zero = refl
  slice_index-squared_up cs (suc n) = slice_index-squares f h cs n

  composed-none_left : (c d : ℕ → ℕ) (n : ℕ) → ((i : ℕ) → c i ≡ 0) → composed f c d n ≡ 0
  composed-none_left c d n none =
      xor_sum-none _ (suc n)
      (λ i less. ap (λ x. field_product f x (frobenius f i (d (n - i)))) (none i) ∙ zero-field_product f h (frobenius f i (d (n - i))))

  -- a constant times d
  composed-constant : (a : ℕ) (d : ℕ → ℕ) (n : ℕ) → composed f (slice_index (a ∷ [])) d n ≡ field_product f a (d n)
  unfolding up
  composed-constant a d n =
      composed-first (slice_index (a ∷ [])) d n
      ∙ ap (bit_xor (field_product f a (d n))) (none n)
      ∙ xor_zero_r (field_product f a (d n))
    where
      none : (n : ℕ) → up (composed f (λ i. slice_index (a ∷ []) (suc i)) (squares f d)) n ≡ 0
      none zero = refl
      none (suc n) = composed-none_left (λ i. slice_index (a ∷ []) (suc i)) (squares f d) n (λ i. refl)

  pub composition-constant : (a : ℕ) (ds : List ℕ) → SamePolynomial (composition f (a ∷ []) ds) (scaled f a ds)
  composition-constant a ds = record {
    coefficients = λ n. slice_index-composition f h (a ∷ []) ds n ∙ composed-constant a (slice_index ds) n ∙ sym (slice_index-scaled f h a ds n);
  }

  -- the square of a polynomial is the composition of X^2 and it
  pub composition-square : (cs : List ℕ) → SamePolynomial (composition f (0 ∷ 1 ∷ []) cs) (squared_up f cs)
  unfolding squares
  composition-square cs =
      let c = slice_index cs in
      record {
        coefficients = λ n. slice_index-composition f h (0 ∷ 1 ∷ []) cs n
            ∙ composed-first (slice_index (0 ∷ 1 ∷ [])) c n
            ∙ ap (λ x. bit_xor x (up (composed f (slice_index (1 ∷ [])) (squares f c)) n)) (zero-field_product f h (c n))
            ∙ xor_zero_l (up (composed f (slice_index (1 ∷ [])) (squares f c)) n)
            ∙ up-same (composed f (slice_index (1 ∷ [])) (squares f c)) (squares f c)
            (λ k. composed-constant 1 (squares f c) k ∙ one-field_product f h (field_product f (c k) (c k)) (field_product-below f h (c k) (c k))) n
            ∙ sym (slice_index-squared_up cs n);
      }

  -- X is the one of composition
  pub composition-one_left : (cs : List ℕ) → IsOver f.degree cs → SamePolynomial (composition f (1 ∷ []) cs) cs
  composition-one_left cs over = record {
    coefficients = λ n. slice_index-composition f h (1 ∷ []) cs n ∙ composed-constant 1 (slice_index cs) n
        ∙ one-field_product f h (slice_index cs n) (coefficient-lt f.degree cs over n);
  }

  pub composition-one_right : 1 < 2 ^ f.degree → (cs : List ℕ) → IsOver f.degree cs → SamePolynomial (composition f cs (1 ∷ [])) cs
  composition-one_right one cs over =
      let c = slice_index cs in
      record {
        coefficients = λ n.
            let here : n - n ≡ 0 = omega arith in
            slice_index-composition f h cs (1 ∷ []) n
            ∙ xor_sum-single (λ i. field_product f (c i) (frobenius f i (slice_index (1 ∷ []) (n - i)))) (suc n) n (omega arith)
            (λ i less apart. ap (λ x. field_product f (c i) (frobenius f i x)) (slice_index-one (n - i) (omega arith))
            ∙ ap (field_product f (c i)) (frobenius-zero f h i) ∙ field_product-zero f h (c i))
            ∙ ap (λ k. field_product f (c n) (frobenius f n (slice_index (1 ∷ []) k))) here
            ∙ ap (field_product f (c n)) (frobenius-one f h one n)
            ∙ field_product-one f h (c n) (coefficient-lt f.degree cs over n);
      }
    where
      slice_index-one : (k : ℕ) → 0 < k → slice_index (1 ∷ []) k ≡ 0
      slice_index-one zero positive = absurd (omega arith)
      slice_index-one (suc k) positive = refl
