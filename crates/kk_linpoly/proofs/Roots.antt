-- A linearised polynomial over a field has no more independent zeros than its degree.
use Rattle.std.proofs.Common.{◌≡◌, ℕ, zero, suc, ◌^◌, ◌<◌, ◌≤◌, ◌⊎◌, true, List, [], ◌∷◌, ◌++◌, Some, length, map, bit_xor, refl, sym, ap, ◌∙◌, arith, subst, inl, inr}
use Rattle.std.specs.Prelude.{slice_index, slice_index_or, All}
use Rattle.std.proofs.lemmas.Bool.{cases_lt, cases_Bool, both_ways}
use Rattle.std.proofs.lemmas.List.{length-map, map_push}
use Rattle.std.proofs.lemmas.List.Elements.{All-head, All-tail, All-push, All-map, All-weaker}
use Rattle.std.specs.Int.Bits.{xor_zero_l, xor_zero_r, xor_self, xor_comm, xor_lt}
use Rattle.kk_field.specs.Polynomial.{IsIrreducible}
use Rattle.kk_field.specs.Field.{Modulus, polynomial, field_product, frobenius}
use Rattle.kk_field.proofs.Sums.{sums, xor_xor_swap, same_from_xor_zero}
use Rattle.kk_field.proofs.Residues.{field_product-below, field_product-zero, zero-field_product, field_product_comm, field_product_assoc, field_product-xor, xor-field_product, square-xor_residues, frobenius-xor, frobenius-field_product}
use Rattle.kk_field.proofs.Fields.{no_zero_divisors_of_residues}
use Rattle.kk_rows.specs.Span.{in_span, innovative_after, IsIndependent}
use Rattle.kk_rows.proofs.Sums.{xor_twice_left}
use Rattle.kk_rows.proofs.Spans.{same_bool, in_span_skip, in_span_use, in_span_cases, in_span-zero, in_span-lt}
use Rattle.kk_rows.proofs.AdditiveMaps.{in_span-map, in_span-of_map}
use Rattle.kk_rows.proofs.Dimensions.{innovative_after-nil, innovative_after_inside, innovative_after_outside, length_after_le}
use Rattle.kk_linpoly.specs.LinPoly.{SamePolynomial, IsOver, value_from, value, degree, sum_of, composition}
use Rattle.kk_linpoly.proofs.Coefficients.{coefficient-lt, IsOver-from, IsOver-composition, IsOver-sum_of, slice_index-sum_of}
use Rattle.kk_linpoly.proofs.Compositions.{frobenius-suc}
use Rattle.kk_linpoly.proofs.Values.{value-zero, value-sum_of, value-composition}
use Rattle.kk_linpoly.proofs.DegreeLaws.{leads_from_degree}

-- x^2 + p·x, which is 0 at 0 and at p
pub image : Modulus → ℕ → ℕ → ℕ
image f p x = bit_xor (field_product f x x) (field_product f p x)

-- ---- the division by X^2 + p·X on the right: what is left at X^(2^i), and the quotient, whose coefficients are what is left further up

carry : Modulus → ℕ → ℕ → List ℕ → ℕ
carry f p i [] = 0
carry f p i (c ∷ cs) = bit_xor c (field_product f (carry f p (suc i) cs) (frobenius f i p))

quotient : Modulus → ℕ → ℕ → List ℕ → List ℕ
quotient f p i [] = []
quotient f p i (c ∷ cs) = carry f p (suc i) cs ∷ quotient f p (suc i) cs

-- the terms of one step of the division
step_terms : (c k v t : ℕ) → bit_xor c (bit_xor v k) ≡ bit_xor (bit_xor (bit_xor k t) v) (bit_xor c t)
step_terms c k v t = simp sums

module _ (f : Modulus) (h : f.low < 2 ^ f.degree) where
  image-xor : (p x y : ℕ) → image f p (bit_xor x y) ≡ bit_xor (image f p x) (image f p y)
  unfolding image
  image-xor p x y =
      ap (λ z. bit_xor z (field_product f p (bit_xor x y))) (square-xor_residues f h x y)
      ∙ ap (bit_xor (bit_xor (field_product f x x) (field_product f y y))) (field_product-xor f h p x y)
      ∙ xor_xor_swap (field_product f x x) (field_product f y y) (field_product f p x) (field_product f p y)

  image-itself : (p : ℕ) → image f p p ≡ 0
  unfolding image
  image-itself p = xor_self (field_product f p p)

  image-zero : (p : ℕ) → image f p 0 ≡ 0
  unfolding image
  image-zero p = ap (λ z. bit_xor z (field_product f p 0)) (field_product-zero f h 0) ∙ ap (bit_xor 0) (field_product-zero f h p)

  image-lt : (p x : ℕ) → image f p x < 2 ^ f.degree
  unfolding image
  image-lt p x = xor_lt f.degree (field_product f x x) (field_product f p x) (field_product-below f h x x) (field_product-below f h p x)

  frobenius-image : (i p x : ℕ) → frobenius f i (image f p x) ≡ bit_xor (frobenius f (suc i) x) (field_product f (frobenius f i p) (frobenius f i x))
  unfolding image
  frobenius-image i p x =
      frobenius-xor f h i (field_product f x x) (field_product f p x)
      ∙ ap (λ z. bit_xor z (frobenius f i (field_product f p x))) (sym (frobenius-suc f h i x))
      ∙ ap (bit_xor (frobenius f (suc i) x)) (frobenius-field_product f h i p x)

  -- the division
  divided : (p i : ℕ) (cs : List ℕ) (x : ℕ)
      → value_from f i cs x ≡ bit_xor (value_from f i (quotient f p i cs) (image f p x)) (field_product f (carry f p i cs) (frobenius f i x))
  unfolding value_from carry quotient
  divided p i [] x = sym (ap (bit_xor 0) (zero-field_product f h (frobenius f i x)))
  divided p i (c ∷ cs) x =
      let k = carry f p (suc i) cs in
      let q = quotient f p (suc i) cs in
      let v = value_from f (suc i) q (image f p x) in
      let y = frobenius f i x in
      let z = frobenius f i p in
      let up = frobenius f (suc i) x in
      let t = field_product f (field_product f k z) y in
      ap (bit_xor (field_product f c y)) (divided p (suc i) cs x)
      ∙ step_terms (field_product f c y) (field_product f k up) v t
      ∙ sym (ap (λ w. bit_xor (bit_xor w v) (bit_xor (field_product f c y) t))
      (ap (field_product f k) (frobenius-image i p x) ∙ field_product-xor f h k up (field_product f z y)
      ∙ ap (bit_xor (field_product f k up)) (sym (field_product_assoc f h k z y))))
      ∙ sym (ap (bit_xor (bit_xor (field_product f k (frobenius f i (image f p x))) v)) (xor-field_product f h c (field_product f k z) y))

  carry-zeros : (p i : ℕ) (cs : List ℕ) → ((k : ℕ) → slice_index cs k ≡ 0) → carry f p i cs ≡ 0
  unfolding carry
  carry-zeros p i [] none = refl
  carry-zeros p i (c ∷ cs) none =
      ap (λ x. bit_xor x (field_product f (carry f p (suc i) cs) (frobenius f i p))) (none 0)
      ∙ ap (λ x. bit_xor 0 (field_product f x (frobenius f i p))) (carry-zeros p (suc i) cs (λ k. none (suc k)))
      ∙ ap (bit_xor 0) (zero-field_product f h (frobenius f i p))

  carry-lt : (p i : ℕ) (cs : List ℕ) → ((k : ℕ) → slice_index cs k < 2 ^ f.degree) → carry f p i cs < 2 ^ f.degree
  unfolding carry
  carry-lt p i [] below = below 0
  carry-lt p i (c ∷ cs) below =
      xor_lt f.degree c (field_product f (carry f p (suc i) cs) (frobenius f i p)) (below 0) (field_product-below f h (carry f p (suc i) cs) (frobenius f i p))

  quotient-lt : (p i : ℕ) (cs : List ℕ) → ((k : ℕ) → slice_index cs k < 2 ^ f.degree) → (k : ℕ) → slice_index (quotient f p i cs) k < 2 ^ f.degree
  unfolding quotient
  quotient-lt p i [] below k = below k
  quotient-lt p i (c ∷ cs) below zero = carry-lt p (suc i) cs (λ k. below (suc k))
  quotient-lt p i (c ∷ cs) below (suc k) = quotient-lt p (suc i) cs (λ k. below (suc k)) k

  -- its degree is one less
  quotient-past : (p i : ℕ) (cs : List ℕ) (n : ℕ) → ((k : ℕ) → suc n ≤ k → slice_index cs k ≡ 0)
      → (k : ℕ) → n ≤ k → slice_index (quotient f p i cs) k ≡ 0
  unfolding quotient
  quotient-past p i [] n past k from = refl
  quotient-past p i (c ∷ cs) n past zero from = carry-zeros p (suc i) cs (λ k. past (suc k) (omega arith))
  quotient-past p i (c ∷ cs) zero past (suc k) from = quotient-past p (suc i) cs zero (λ j le. past (suc j) (omega arith)) k (omega arith)
  quotient-past p i (c ∷ cs) (suc n) past (suc k) from = quotient-past p (suc i) cs n (λ j le. past (suc j) (omega arith)) k (omega arith)

  -- where nothing is left and the quotient is 0, so is the polynomial
  zeros_from_quotient : (p i : ℕ) (cs : List ℕ) → carry f p i cs ≡ 0 → ((k : ℕ) → slice_index (quotient f p i cs) k ≡ 0)
      → (k : ℕ) → slice_index cs k ≡ 0
  unfolding carry quotient
  zeros_from_quotient p i [] left none k = refl
  zeros_from_quotient p i (c ∷ cs) left none zero =
      sym (xor_zero_r c) ∙ ap (bit_xor c) (sym (ap (λ x. field_product f x (frobenius f i p)) (none 0) ∙ zero-field_product f h (frobenius f i p))) ∙ left
  zeros_from_quotient p i (c ∷ cs) left none (suc k) = zeros_from_quotient p (suc i) cs (none 0) (λ j. none (suc j)) k

module _ (f : Modulus) (h : f.low < 2 ^ f.degree) (irreducible : IsIrreducible (polynomial f)) where
  -- only 0 and p go to 0
  image_is_zero : (p x : ℕ) → p < 2 ^ f.degree → x < 2 ^ f.degree → image f p x ≡ 0 → (x ≡ 0) ⊎ (x ≡ p)
  unfolding image
  image_is_zero p x p_below x_below none =
      elim (cases_lt 0 x) [
        | inl positive ↦
            let split : field_product f x (bit_xor x p) ≡ 0 =
            field_product-xor f h x x p ∙ ap (bit_xor (field_product f x x)) (field_product_comm f h x p) ∙ none in
            inr (same_from_xor_zero x p (no_zero_divisors_of_residues f h irreducible x (bit_xor x p) x_below positive (xor_lt f.degree x p x_below p_below) split))
        | inr less ↦ inl (omega arith)
      ]

  -- r is in the span of p and the rows exactly where its image is in that of theirs
  in_span-images : (p : ℕ) (rows : List ℕ) (r : ℕ) → p < 2 ^ f.degree → All (λ x. x < 2 ^ f.degree) rows → r < 2 ^ f.degree
      → in_span (p ∷ rows) r ≡ in_span (map (image f p) rows) (image f p r)
  in_span-images p rows r p_below rows_below r_below =
      let P : ℕ → Type 0 = λ x. in_span (map (image f p) rows) x ≡ true in
      let Q : ℕ → Type 0 = λ x. in_span rows x ≡ true in
      same_bool _ _
      (λ inside. elim (in_span_cases p rows r inside) [
        | inl skipped ↦ in_span-map (image f p) (image-xor f h p) rows r skipped
        | inr used ↦ subst P (image-xor f h p r p ∙ ap (bit_xor (image f p r)) (image-itself f h p) ∙ xor_zero_r (image f p r)) (in_span-map (image f p) (image-xor f h p) rows (bit_xor r p) used)
      ])
      (λ inside.
      let v = in_span-of_map (image f p) (image-xor f h p) rows (image f p r) inside in
      let v_below : v.0 < 2 ^ f.degree = in_span-lt f.degree rows rows_below v.0 v.1 in
      let none : image f p (bit_xor v.0 r) ≡ 0 = image-xor f h p v.0 r ∙ ap (λ x. bit_xor x (image f p r)) v.2 ∙ xor_self (image f p r) in
      elim (image_is_zero p (bit_xor v.0 r) p_below (xor_lt f.degree v.0 r v_below r_below) none) [
        | inl same ↦ in_span_skip p rows r (subst Q (same_from_xor_zero v.0 r same) v.1)
        | inr shifted ↦ in_span_use p rows r (subst Q (sym (ap (bit_xor r) (sym shifted ∙ xor_comm v.0 r) ∙ xor_twice_left r v.0)) v.1)
      ])

  -- so as many rows are innovative after p as images are
  innovative_images : (p : ℕ) (before rows : List ℕ) → p < 2 ^ f.degree → All (λ x. x < 2 ^ f.degree) before → All (λ x. x < 2 ^ f.degree) rows
      → length (innovative_after (p ∷ before) rows) ≡ length (innovative_after (map (image f p) before) (map (image f p) rows))
  innovative_images p before [] p_below before_below rows_below =
      ap length (innovative_after-nil (p ∷ before)) ∙ sym (ap length (innovative_after-nil (map (image f p) before)))
  innovative_images p before (r ∷ rows) p_below before_below rows_below =
      let P : ℕ → Type 0 = λ x. x < 2 ^ f.degree in
      let images = map (image f p) before in
      let more = map (image f p) rows in
      let r_below = All-head P r rows rows_below in
      let same = in_span-images p before r p_below before_below r_below in
      let rest : length (innovative_after (p ∷ before ++ r ∷ []) rows) ≡ length (innovative_after (images ++ image f p r ∷ []) more) =
      innovative_images p (before ++ r ∷ []) rows p_below (All-push P before r before_below r_below) (All-tail P r rows rows_below)
      ∙ ap (λ l. length (innovative_after l more)) (map_push (image f p) before r) in
      elim (cases_Bool (in_span (p ∷ before) r)) [
        | inl inside ↦
            ap length (innovative_after_inside (p ∷ before) r rows inside) ∙ rest
            ∙ sym (ap length (innovative_after_inside images (image f p r) more (sym same ∙ inside)))
        | inr outside ↦
            ap length (innovative_after_outside (p ∷ before) r rows outside) ∙ ap suc rest
            ∙ sym (ap length (innovative_after_outside images (image f p r) more (sym same ∙ outside)))
      ]

  -- the images of the others are independent where p and they are
  independent_images : (p : ℕ) (rows : List ℕ) → p < 2 ^ f.degree → All (λ x. x < 2 ^ f.degree) rows → IsIndependent (p ∷ rows)
      → (0 < p) × IsIndependent (map (image f p) rows)
  independent_images p rows p_below rows_below independent =
      elim (cases_Bool (in_span [] p)) [
        | inl inside ↦
            let fewer = length_after_le (p ∷ []) rows in
            let e = ap length (innovative_after_inside [] p rows inside) in
            absurd (omega arith)
        | inr outside ↦
            let e = ap length (innovative_after_outside [] p rows outside) in
            let all : length (innovative_after (p ∷ []) rows) ≡ length rows = omega arith in (
              elim (cases_lt 0 p) [
                | inl positive ↦ positive
                | inr less ↦
                    let none : p ≡ 0 = omega arith in
                    absurd (both_ways _ outside (ap (in_span []) none ∙ in_span-zero []))
              ],
              sym (innovative_images p [] rows p_below (λ k d less. absurd (omega (arith, less))) rows_below) ∙ all ∙ sym (length-map rows (image f p)),
            )
      ]

  -- the quotient is 0 at the images of the other zeros, and nothing is left
  nothing_left : (p : ℕ) (cs : List ℕ) → p < 2 ^ f.degree → 0 < p → IsOver f.degree cs → value f cs p ≡ 0 → carry f p 0 cs ≡ 0
  unfolding frobenius
  nothing_left p cs p_below positive over none =
      let left = carry f p 0 cs in
      let q = quotient f p 0 cs in
      let multiple : field_product f p left ≡ 0 =
      field_product_comm f h p left
      ∙ sym (xor_zero_l (field_product f left p))
      ∙ ap (λ x. bit_xor x (field_product f left p)) (sym (ap (value f q) (image-itself f h p) ∙ value-zero f h q))
      ∙ sym (divided f h p 0 cs p) ∙ none in
      no_zero_divisors_of_residues f h irreducible p left p_below positive (carry-lt f h p 0 cs (coefficient-lt f.degree cs over)) multiple

  quotient_at : (p : ℕ) (cs : List ℕ) (x : ℕ) → carry f p 0 cs ≡ 0 → value f cs x ≡ 0 → value f (quotient f p 0 cs) (image f p x) ≡ 0
  quotient_at p cs x left none =
      let v = value f (quotient f p 0 cs) (image f p x) in
      sym (xor_zero_r v)
      ∙ ap (bit_xor v) (sym (ap (λ k. field_product f k (frobenius f 0 x)) left ∙ zero-field_product f h (frobenius f 0 x)))
      ∙ sym (divided f h p 0 cs x) ∙ none

  zeros_of_count : (n : ℕ) (points cs : List ℕ) → length points ≡ n → All (λ x. x < 2 ^ f.degree) points → IsIndependent points
      → ((k : ℕ) → slice_index cs k < 2 ^ f.degree) → All (λ p. value f cs p ≡ 0) points → ((k : ℕ) → n ≤ k → slice_index cs k ≡ 0)
      → (k : ℕ) → slice_index cs k ≡ 0
  zeros_of_count zero points cs count below independent over roots past k = past k (omega arith)
  zeros_of_count (suc n) [] cs count below independent over roots past k = absurd (omega arith)
  zeros_of_count (suc n) (p ∷ points) cs count below independent over roots past k =
      let P : ℕ → Type 0 = λ x. x < 2 ^ f.degree in
      let R : ℕ → Type 0 = λ x. value f cs x ≡ 0 in
      let q = quotient f p 0 cs in
      let p_below = All-head P p points below in
      let others_below = All-tail P p points below in
      let images = independent_images p points p_below others_below independent in
      let left = nothing_left p cs p_below images.0 (IsOver-from f.degree cs over) (All-head R p points roots) in
      let count_images : length (map (image f p) points) ≡ n = omega (arith, length-map points (image f p)) in
      zeros_from_quotient f h p 0 cs left
      (zeros_of_count n (map (image f p) points) q count_images
      (All-map P (image f p) points (λ k d less. image-lt f h p (slice_index_or points k d)))
      images.1
      (quotient-lt f h p 0 cs over)
      (All-map (λ x. value f q x ≡ 0) (image f p) points
      (All-weaker R (λ x. value f q (image f p x) ≡ 0) (λ x none. quotient_at p cs x left none) points (All-tail R p points roots)))
      (quotient-past f h p 0 cs n past)) k

  -- a polynomial with no coefficient from place s on is 0 where it is 0 at s independent points
  pub zeros_from_roots : (cs points : List ℕ) → IsOver f.degree cs → All (λ p. p < 2 ^ f.degree) points → IsIndependent points
      → All (λ p. value f cs p ≡ 0) points → ((k : ℕ) → length points ≤ k → slice_index cs k ≡ 0) → (k : ℕ) → slice_index cs k ≡ 0
  zeros_from_roots cs points over below independent roots past =
      zeros_of_count (length points) points cs refl below independent (coefficient-lt f.degree cs over) roots past

  pub few_roots : (cs points : List ℕ) (e : ℕ) → IsOver f.degree cs → degree cs ≡ Some e → All (λ p. p < 2 ^ f.degree) points → IsIndependent points
      → All (λ p. value f cs p ≡ 0) points → length points ≤ e
  few_roots cs points e over degree_is below independent roots =
      let leads = leads_from_degree cs e degree_is in
      elim (cases_lt e (length points)) [
        | inl more ↦ absurd (leads.leading (zeros_from_roots cs points over below independent roots (λ k from. leads.past k (omega arith)) e))
        | inr few ↦ few
      ]

  -- two polynomials with no coefficient from place s on are the same where their values are at s independent points
  pub same_from_values : (cs ds points : List ℕ) → IsOver f.degree cs → IsOver f.degree ds → All (λ p. p < 2 ^ f.degree) points → IsIndependent points
      → All (λ p. value f cs p ≡ value f ds p) points → ((k : ℕ) → length points ≤ k → slice_index cs k ≡ slice_index ds k) → SamePolynomial cs ds
  same_from_values cs ds points c_over d_over below independent same past =
      let both = sum_of cs ds in
      let none = zeros_from_roots both points (IsOver-sum_of f.degree cs ds c_over d_over) below independent
      (All-weaker (λ p. value f cs p ≡ value f ds p) (λ p. value f both p ≡ 0)
      (λ p e. value-sum_of f h cs ds p ∙ ap (λ x. bit_xor x (value f ds p)) e ∙ xor_self (value f ds p)) points same)
      (λ k from. slice_index-sum_of cs ds k ∙ ap (λ x. bit_xor x (slice_index ds k)) (past k from) ∙ xor_self (slice_index ds k)) in
      record { coefficients = λ k. same_from_xor_zero (slice_index cs k) (slice_index ds k) (sym (slice_index-sum_of cs ds k) ∙ none k) }

  -- x(X) + y(f(X)) is the zero polynomial where it is 0 at more independent points than its degree allows
  pub zero_from_interpolation : (xs ys fs points : List ℕ) → IsOver f.degree xs → All (λ p. p < 2 ^ f.degree) points → IsIndependent points
      → All (λ p. value f xs p ≡ value f ys (value f fs p)) points
      → ((k : ℕ) → length points ≤ k → slice_index xs k ≡ 0) → ((k : ℕ) → length points ≤ k → slice_index (composition f ys fs) k ≡ 0)
      → SamePolynomial xs (composition f ys fs)
  zero_from_interpolation xs ys fs points over below independent same x_past y_past =
      same_from_values xs (composition f ys fs) points over (IsOver-composition f h ys fs) below independent
      (λ k d less. same k d less ∙ sym (value-composition f h ys fs (slice_index_or points k d)))
      (λ k from. x_past k from ∙ sym (y_past k from))
