-- A basis in echelon form of the images of X, X^2, .. under a linear map, and the map's kernel.
use Rattle.std.proofs.Common.{◌≡◌, ℕ, suc, ◌*◌, ◌^◌, ◌<◌, ◌≤◌, ◌⊎◌, List, replicate, slice_index, slice_set, bit_xor, refl, sym, ap, ◌∙◌, arith, subst, inl, inr, get_or-set_same, get_or-set_other}
use Rattle.std.proofs.Math.Nat.{pow-suc}
use Rattle.std.proofs.Math.Pow.{pow_pos, pow_mono}
use Rattle.std.proofs.Math.ListN.{length-replicate}
use Rattle.std.proofs.lemmas.List.{get_or_past, get_or-replicate}
use Rattle.std.proofs.lemmas.Bool.{cases_lt, cases_eq, cases_order}
use Rattle.std.specs.Int.Bits.{xor_comm, xor_self, xor_lt}
use Rattle.kk_field.proofs.Sums.{sums, xor_cancel, same_from_xor_zero}
use Rattle.kk_field.proofs.Degrees.{HasDegree, HasDegree-xor, degree_of, degree_unique, xor_top}
use Rattle.kk_field.specs.Echelon.{IsEchelon, InSpan, none, more, Inserts}

pub slice_index-zeros : (n t : ℕ) → slice_index (replicate n 0) t ≡ 0
slice_index-zeros n t =
    elim (cases_lt t n) [
      | inl within ↦ get_or-replicate n t 0 0 within
      | inr past ↦ get_or_past (replicate n 0) t 0 (omega (arith, length-replicate {A = ℕ} n 0))
    ]

pub IsEchelon-zeros : (n : ℕ) → IsEchelon (replicate n 0)
IsEchelon-zeros n = record { degrees = λ t apart. absurd (apart (slice_index-zeros n t)) }

xor_undo : (a b : ℕ) → bit_xor (bit_xor a b) b ≡ a
xor_undo a b = simp sums

-- the degree of a sum of numbers with different degrees
sum_low : (x y d t : ℕ) → HasDegree x d → HasDegree y t → d < t → HasDegree (bit_xor x y) t
sum_low x y d t hx hy less =
    let powers : 2 ^ suc d ≤ 2 ^ t = pow_mono less in
    rw (xor_comm x y) (HasDegree-xor y x t hy (omega (arith, hx.below, powers)))

sum_high : (x y d t : ℕ) → HasDegree x d → HasDegree y t → t < d → HasDegree (bit_xor x y) d
sum_high x y d t hx hy less =
    let powers : 2 ^ suc t ≤ 2 ^ d = pow_mono less in
    HasDegree-xor x y d hx (omega (arith, hy.below, powers))

HasDegree-pow : (i : ℕ) → HasDegree (2 ^ i) i
HasDegree-pow i = record { at_least = omega arith; below = omega (arith, pow-suc 2 i, pow_pos i) }

-- the entries are images of numbers below 2^i, and tell which of these go to 0
pub record Covers (map : ℕ → ℕ) (pivots : List ℕ) (i : ℕ) : Type 0 where
  pub origin : (t : ℕ) → (w : ℕ) × (w < 2 ^ i) × (map w ≡ slice_index pivots t)
  pub tops : (a t : ℕ) → a < 2 ^ i → HasDegree (map a) t → slice_index pivots t ≡ 0 → ⊥
  pub kernel : (a : ℕ) → a < 2 ^ i → map a ≡ 0 → a < 2

module _ (map : ℕ → ℕ) (additive : (a b : ℕ) → map (bit_xor a b) ≡ bit_xor (map a) (map b)) where
  map-zero : map 0 ≡ 0
  map-zero = ap map (sym (xor_self 0)) ∙ additive 0 0 ∙ xor_self (map 0)

  -- nothing is inserted yet: only 0 and 1 are below 2, and 1 goes to 0
  pub Covers-none : (n : ℕ) → map 1 ≡ 0 → Covers map (replicate n 0) 1
  Covers-none n one = record {
    origin = λ t. (0, omega arith, map-zero ∙ sym (slice_index-zeros n t));
    tops = λ a t below degree free. absurd (omega (arith, degree.at_least, pow_pos t, both a below));
    kernel = λ a below goes. below;
  }
    where
      both : (a : ℕ) → a < 2 → map a ≡ 0
      both a below = elim (cases_lt a 1) [
        | inl small ↦ let is : a ≡ 0 = omega arith in ap map is ∙ map-zero
        | inr big ↦ let is : a ≡ 1 = omega arith in ap map is ∙ one
      ]

  -- a sum of entries is an image too
  origin_of : (pivots : List ℕ) (i x : ℕ) → Covers map pivots i → InSpan pivots x → (w : ℕ) × (w < 2 ^ i) × (map w ≡ x)
  origin_of pivots i x c none = (0, pow_pos i, map-zero)
  origin_of pivots i x c (more {x = y} t s) =
      let w = origin_of pivots i y c s in
      let u = c.origin t in
      (bit_xor w.0 u.0, xor_lt i w.0 u.0 w.1 u.1, additive w.0 u.0 ∙ rw (w.2, u.2) refl)

  -- where the image of X^i is a sum of entries, more goes to 0 than 0 and 1
  pub more_in_kernel : (pivots : List ℕ) (i : ℕ) → Covers map pivots i → InSpan pivots (map (2 ^ i))
      → (a : ℕ) × (a < 2 ^ suc i) × (2 ^ i ≤ a) × (map a ≡ 0)
  more_in_kernel pivots i c s =
      let w = origin_of pivots i (map (2 ^ i)) c s in
      let d = HasDegree-xor (2 ^ i) w.0 i (HasDegree-pow i) w.1 in
      (bit_xor (2 ^ i) w.0, d.below, d.at_least, additive (2 ^ i) w.0 ∙ rw w.2 (xor_self (map (2 ^ i))))

  -- the rest of the image of X^i is an image
  rest_origin : (old new : List ℕ) (i : ℕ) → Covers map old i → (s : Inserts old new (map (2 ^ i)))
      → (w : ℕ) × HasDegree w i × (map w ≡ s.left)
  rest_origin old new i c s =
      let v = map (2 ^ i) in
      let w = origin_of old i (bit_xor v s.left) c s.in_span in (
        bit_xor (2 ^ i) w.0,
        HasDegree-xor (2 ^ i) w.0 i (HasDegree-pow i) w.1,
        additive (2 ^ i) w.0 ∙ ap (bit_xor v) w.2 ∙ xor_cancel v s.left,
      )

  -- a number that is not below 2^i, less the rest's origin
  lowered : (i a w : ℕ) → a < 2 ^ suc i → 2 ^ i ≤ a → HasDegree w i → bit_xor a w < 2 ^ i
  lowered i a w below least d = xor_top i a w (record { at_least = least; below = below }) d

  new_entry : (old new : List ℕ) (v t : ℕ) → (s : Inserts old new v)
      → ((t ≡ s.place) × (slice_index new t ≡ s.left)) ⊎ ((t ≡ s.place → ⊥) × (slice_index new t ≡ slice_index old t))
  new_entry old new v t s =
      elim (cases_eq t s.place) [
        | inl e ↦ inl (e, ap (λ l. slice_index l t) s.set ∙ ap (slice_index (slice_set old s.place s.left)) e ∙ get_or-set_same old s.place s.left 0 s.within)
        | inr apart ↦ inr (apart, ap (λ l. slice_index l t) s.set ∙ get_or-set_other old s.place t s.left 0 apart)
      ]

  module _ (old new : List ℕ) (i : ℕ) (c : Covers map old i) (s : Inserts old new (map (2 ^ i))) where
    wider : 2 ^ suc i ≡ 2 ^ i * 2
    wider = pow-suc 2 i

    more_origin : (t : ℕ) → (w : ℕ) × (w < 2 ^ suc i) × (map w ≡ slice_index new t)
    more_origin t =
        elim (new_entry old new (map (2 ^ i)) t s) [
          | inl h ↦ let w = rest_origin old new i c s in (w.0, w.1.below, w.2 ∙ sym h.1)
          | inr h ↦ let w = c.origin t in (w.0, omega (arith, w.1, wider), w.2 ∙ sym h.1)
        ]

    rest_positive : s.left ≡ 0 → ⊥
    rest_positive e = absurd (omega (arith, s.degree.at_least, pow_pos s.place))

    still_taken : (t : ℕ) → (slice_index old t ≡ 0 → ⊥) → slice_index new t ≡ 0 → ⊥
    still_taken t taken free =
        elim (new_entry old new (map (2 ^ i)) t s) [
          | inl h ↦ rest_positive (sym h.1 ∙ free)
          | inr h ↦ taken (sym h.1 ∙ free)
        ]

    place_taken : (t : ℕ) → t ≡ s.place → slice_index new t ≡ 0 → ⊥
    place_taken t e free =
        elim (new_entry old new (map (2 ^ i)) t s) [
          | inl h ↦ rest_positive (sym h.1 ∙ free)
          | inr h ↦ h.0 e
        ]

    -- the image of a number from 2^i on: the rest and the image of a number below 2^i
    image_split : (a : ℕ) → a < 2 ^ suc i → 2 ^ i ≤ a → (b : ℕ) × (b < 2 ^ i) × (map a ≡ bit_xor (map b) s.left)
    image_split a below least =
        let w = rest_origin old new i c s in (
          bit_xor a w.0,
          lowered i a w.0 below least w.1,
          sym (ap (λ x. bit_xor x s.left) (additive a w.0 ∙ ap (bit_xor (map a)) w.2) ∙ xor_undo (map a) s.left),
        )

    more_tops : (a t : ℕ) → a < 2 ^ suc i → HasDegree (map a) t → slice_index new t ≡ 0 → ⊥
    more_tops a t below degree =
        elim (cases_lt a (2 ^ i)) [
          | inl small ↦ still_taken t (c.tops a t small degree)
          | inr big ↦
              let b = image_split a below big in
              let split : HasDegree (bit_xor (map b.0) s.left) t = subst (λ x. HasDegree x t) b.2 degree in
              elim (cases_lt 0 (map b.0)) [
                | inl positive ↦
                    let d = degree_of (map b.0) positive in
                    elim (cases_order d.0 s.place) [
                      | inl e ↦ λ free. c.tops b.0 d.0 b.1 d.1 (ap (slice_index old) e ∙ s.free)
                      | inr different ↦ elim different [
                        | inl less ↦ place_taken t (degree_unique (bit_xor (map b.0) s.left) t s.place split (sum_low (map b.0) s.left d.0 s.place d.1 s.degree less))
                        | inr more_than ↦
                            let e : t ≡ d.0 = degree_unique (bit_xor (map b.0) s.left) t d.0 split (sum_high (map b.0) s.left d.0 s.place d.1 s.degree more_than) in
                            still_taken t (c.tops b.0 t b.1 (subst (HasDegree (map b.0)) (sym e) d.1))
                      ]
                    ]
                | inr zero_or_less ↦
                    let is : map b.0 ≡ 0 = omega arith in
                    place_taken t (degree_unique s.left t s.place (subst (λ x. HasDegree (bit_xor x s.left) t) is split) s.degree)
              ]
        ]

    more_kernel : (a : ℕ) → a < 2 ^ suc i → map a ≡ 0 → a < 2
    more_kernel a below goes =
        elim (cases_lt a (2 ^ i)) [
          | inl small ↦ c.kernel a small goes
          | inr big ↦
              let b = image_split a below big in
              let is : map b.0 ≡ s.left = same_from_xor_zero (map b.0) s.left (sym b.2 ∙ goes) in
              absurd (c.tops b.0 s.place b.1 (subst (λ x. HasDegree x s.place) (sym is) s.degree) s.free)
        ]

    pub Covers-more : Covers map new (suc i)
    Covers-more = record { origin = more_origin; tops = more_tops; kernel = more_kernel }
