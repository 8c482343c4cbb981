-- What additive maps do to spans and dimensions, and the rows with one coordinate 1.
use Rattle.std.proofs.Common.{◌≡◌, ℕ, zero, suc, ◌+◌, ◌-◌, ◌*◌, ◌^◌, ◌<◌, ◌≤◌, true, List, [], ◌∷◌, ◌++◌, length, map, refl, sym, ap, ap₂, ◌∙◌, subst, inl, inr, bit_xor, add-one, arith}
use Rattle.std.specs.Prelude.{All}
use Rattle.std.specs.Int.Bits.{xor_zero_r, xor_self}
use Rattle.std.proofs.Math.Nat.{two-pow-succ}
use Rattle.std.proofs.lemmas.Nat.{xor_block, pow_pos}
use Rattle.std.proofs.lemmas.Bool.{cases_lt, false_from_ne_true}
use Rattle.std.proofs.lemmas.List.{length-map}
use Rattle.std.proofs.lemmas.List.Elements.{All-map, All-weaker, All-push, All-nil, All-cons}
use Rattle.std.proofs.lemmas.List.FromFn.{map-range_with_len_more}
use Rattle.kk_rows.specs.Span.{in_span, innovative, dimension, IsIndependent}
use Rattle.kk_rows.specs.AdditiveMap.{IsAdditive, unit_rows}
use Rattle.kk_rows.specs.Laws.{AdditiveMapsTakeSpansToSpans, UnitRowsAreABasis}
use Rattle.kk_rows.proofs.Spans.{in_span-least, in_span-zero, in_span-xor, in_span-head, in_span_skip, in_span-each, in_span-lt, in_span-push_skip, in_span-push_use}
use Rattle.kk_rows.proofs.Dimensions.{innovative_after-nil, dimension-le_within, dimension-le_length, in_span_innovative}
use Rattle.kk_rows.proofs.Independence.{independent-push}

-- 0 goes to 0, since it is twice itself
pub additive-zero : (g : ℕ → ℕ) → IsAdditive g → g 0 ≡ 0
additive-zero g additive =
    sym (ap (λ x. bit_xor x (g 0)) (sym (xor_zero_r (g 0)))
    ∙ ap (λ x. bit_xor x (g 0)) (xor_zero_r (g 0)) ∙ sym (additive 0 0)) ∙ xor_self (g 0)

-- each image is in the span of the images
each_image : (g : ℕ → ℕ) (rows : List ℕ) → All (λ x. in_span (map g rows) (g x) ≡ true) rows
each_image g [] = All-nil (λ x. in_span (map g []) (g x) ≡ true)
each_image g (r ∷ rows) =
    All-cons (λ x. in_span (map g (r ∷ rows)) (g x) ≡ true) r rows (in_span-head (g r) (map g rows))
    (All-weaker (λ x. in_span (map g rows) (g x) ≡ true) (λ x. in_span (map g (r ∷ rows)) (g x) ≡ true)
    (λ x k. in_span_skip (g r) (map g rows) (g x) k) rows (each_image g rows))

module _ (g : ℕ → ℕ) (additive : IsAdditive g) where
  -- images of members are members
  pub in_span-map : (rows : List ℕ) (v : ℕ) → in_span rows v ≡ true → in_span (map g rows) (g v) ≡ true
  in_span-map rows v inside =
      let P : ℕ → Type 0 = λ x. in_span (map g rows) x ≡ true in
      in_span-least (λ x. in_span (map g rows) (g x) ≡ true) (subst P (sym (additive-zero g additive)) (in_span-zero (map g rows)))
      (λ a b ha hb. subst P (sym (additive a b)) (in_span-xor (map g rows) (g a) (g b) ha hb)) rows (each_image g rows) v inside

  -- and there are no others
  pub in_span-of_map : (rows : List ℕ) (w : ℕ) → in_span (map g rows) w ≡ true → (v : ℕ) × (in_span rows v ≡ true) × (g v ≡ w)
  in_span-of_map rows w inside =
      let P : ℕ → Type 0 = λ x. (v : ℕ) × (in_span rows v ≡ true) × (g v ≡ x) in
      let each_source = All-weaker (λ x. in_span rows x ≡ true) (λ x. P (g x)) (λ x k. (x, k, refl)) rows (in_span-each rows) in
      in_span-least P (0, in_span-zero rows, additive-zero g additive)
      (λ a b ka kb. (
        bit_xor ka.0 kb.0,
        in_span-xor rows ka.0 kb.0 ka.1 kb.1,
        additive ka.0 kb.0 ∙ ap₂ bit_xor ka.2 kb.2,
      )) (map g rows) (All-map P g rows each_source) w inside

  -- so the dimension doesn't rise
  pub dimension-map : (rows : List ℕ) → dimension (map g rows) ≤ dimension rows
  dimension-map rows =
      let basis = innovative rows in
      let within = dimension-le_within (map g rows) (map g basis) (λ x k.
      let v = in_span-of_map rows x k in
      subst (λ y. in_span (map g basis) y ≡ true) v.2 (in_span-map basis v.0 (in_span_innovative rows v.0 ∙ v.1))) in
      omega (arith, within, dimension-le_length (map g basis), length-map basis g)

  -- and rows are independent where their images are
  pub independent_from_images : (rows : List ℕ) → IsIndependent (map g rows) → IsIndependent rows
  independent_from_images rows independent =
      omega (arith, dimension-map rows, dimension-le_length rows, independent, length-map rows g)

pub additive_maps_take_spans_to_spans : AdditiveMapsTakeSpansToSpans
additive_maps_take_spans_to_spans g additive rows = record {
  image_of_member = in_span-map g additive rows;
  member_of_image = in_span-of_map g additive rows;
  dimension_falls = dimension-map g additive rows;
}

-- ---- the rows with one coordinate 1

pub unit_rows-more : (n : ℕ) → unit_rows (suc n) ≡ unit_rows n ++ 2 ^ n ∷ []
unit_rows-more n = ap unit_rows (sym (add-one n)) ∙ map-range_with_len_more (λ i. 2 ^ i) 0 n n (omega arith)

-- a row below 2^(n+1) that isn't below 2^n is so without its bit n
without_top : (n x : ℕ) → x < 2 ^ suc n → 2 ^ n ≤ x → bit_xor x (2 ^ n) < 2 ^ n
without_top n x below from =
    let low : x - 2 ^ n < 2 ^ n = omega (arith, two-pow-succ n) in
    let parts : x ≡ 1 * 2 ^ n + (x - 2 ^ n) = omega arith in
    let top : 2 ^ n ≡ 1 * 2 ^ n + 0 = omega arith in
    let sum = ap₂ bit_xor parts top ∙ xor_block n 1 1 (x - 2 ^ n) 0 low (pow_pos n)
    ∙ ap (λ y. y * 2 ^ n + bit_xor (x - 2 ^ n) 0) (xor_self 1) ∙ ap (λ y. 0 * 2 ^ n + y) (xor_zero_r (x - 2 ^ n)) in
    omega (arith, sum, low)

-- each row below 2^n is in their span
pub in_span-unit_rows : (n x : ℕ) → x < 2 ^ n → in_span (unit_rows n) x ≡ true
in_span-unit_rows zero x below = subst (λ y. in_span (unit_rows 0) y ≡ true) (omega arith) (in_span-zero (unit_rows 0))
in_span-unit_rows (suc n) x below =
    let P : List ℕ → Type 0 = λ rows. in_span rows x ≡ true in
    subst P (sym (unit_rows-more n)) (elim (cases_lt x (2 ^ n)) [
      | inl less ↦ in_span-push_skip (unit_rows n) (2 ^ n) x (in_span-unit_rows n x less)
      | inr not_less ↦ in_span-push_use (unit_rows n) (2 ^ n) x (in_span-unit_rows n (bit_xor x (2 ^ n)) (without_top n x below not_less))
    ])

pub unit_rows-below : (n : ℕ) → All (λ x. x < 2 ^ n) (unit_rows n)
unit_rows-below zero = All-nil (λ x. x < 2 ^ 0)
unit_rows-below (suc n) =
    let P : ℕ → Type 0 = λ x. x < 2 ^ suc n in
    subst (All P) (sym (unit_rows-more n))
    (All-push P (unit_rows n) (2 ^ n)
    (All-weaker (λ x. x < 2 ^ n) P (λ x k. omega (arith, k, two-pow-succ n)) (unit_rows n) (unit_rows-below n))
    (omega (arith, two-pow-succ n, pow_pos n)))

-- none is in the span of those before it
pub unit_rows-independent : (n : ℕ) → IsIndependent (unit_rows n)
unit_rows-independent zero = ap length (innovative_after-nil [])
unit_rows-independent (suc n) =
    subst IsIndependent (sym (unit_rows-more n))
    (independent-push (unit_rows n) (2 ^ n) (unit_rows-independent n)
    (false_from_ne_true (in_span (unit_rows n) (2 ^ n)) (λ k.
    let less = in_span-lt n (unit_rows n) (unit_rows-below n) (2 ^ n) k in
    absurd (omega arith))))

pub unit_rows_are_a_basis : UnitRowsAreABasis
unit_rows_are_a_basis n = record {
  independent = unit_rows-independent n;
  spans = λ v. (λ inside. in_span-lt n (unit_rows n) (unit_rows-below n) v inside, λ below. in_span-unit_rows n v below);
}
