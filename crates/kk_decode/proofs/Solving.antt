-- A polynomial of small weight that is 0 on a space gives the message that decodes it.
use Rattle.std.proofs.Common.{◌≡◌, ◌≢◌, ◌⊎◌, ℕ, zero, suc, ◌+◌, ◌-◌, ◌*◌, ◌/◌, ◌%◌, ◌^◌, ◌<◌, ◌≤◌, true, List, [], length, refl, sym, ap, ap₂, ◌∙◌, inl, inr, arith}
use Rattle.std.specs.Prelude.{slice_index}
use Rattle.std.proofs.lemmas.Bool.{cases_lt}
use Rattle.std.proofs.lemmas.Nat.{div-mul-add, mod-mul-add}
use Rattle.std.proofs.Math.Pow.{pow_mono}
use Rattle.std.proofs.lemmas.List.{get_or_past}
use Rattle.std.proofs.lemmas.List.Elements.{All-weaker}
use Rattle.kk_field.specs.Field.{Modulus}
use Rattle.kk_field.proofs.Sums.{same_from_xor_zero}
use Rattle.kk_linpoly.specs.LinPoly.{value, degree, composition}
use Rattle.kk_linpoly.proofs.Values.{value-lt}
use Rattle.kk_linpoly.proofs.Trimmed.{degree-some, trimmed-zeros}
use Rattle.kk_linpoly.proofs.Coefficients.{composed-past, slice_index-composition}
use Rattle.kk_linpoly.proofs.ComposeLoop.{composed-none}
use Rattle.kk_linpoly.proofs.Roots.{zero_from_interpolation}
use Rattle.kk_rows.specs.Span.{in_span, dimension}
use Rattle.kk_rows.proofs.Distances.{distance_by_meet, meet_dimension-le_left, meet_dimension_comm}
use Rattle.kk_interp.specs.declared.bi_poly.BiPoly.{BiPoly}
use Rattle.kk_interp.specs.BiPoly.{IsPart, IsOfField, value_at, part_weight, weight}
use Rattle.kk_code.specs.Codeword.{Parameters, IsCode, row_of, codeword}
use Rattle.kk_code.specs.Decoding.{Decodes}
use Rattle.kk_code.proofs.Graphs.{common_points, dimension-codeword}
use Rattle.kk_decode.specs.Solving.{IsZeroOn, Solves}

-- ---- lengths by weights

part_length : (m n l : ℕ) (cs : List ℕ) → IsPart m cs → length cs ≡ suc l → part_weight n (degree cs) ≡ l + n
unfolding part_weight
part_length m n l cs part long = ap (part_weight n) (degree-some cs l (ap length part.no_zero_at_end ∙ long))

x_length_cases : (f : Modulus) (k l : ℕ) (q : BiPoly) → IsOfField f q.qx q.qy → length q.qx ≡ l → l ≤ weight k q.qx q.qy + 1
unfolding weight
x_length_cases f k zero q h long = omega arith
x_length_cases f k (suc l) q h long = let w = part_length f.degree 0 l q.qx h.x long in omega arith

y_length_cases : (f : Modulus) (k l : ℕ) (q : BiPoly) → IsOfField f q.qx q.qy → 1 ≤ k → length q.qy ≡ l → 0 < l → l + k ≤ weight k q.qx q.qy + 2
unfolding weight
y_length_cases f k zero q h low long some = absurd (omega arith)
y_length_cases f k (suc l) q h low long some = let w = part_length f.degree (k - 1) l q.qy h.y long in omega arith

-- the part in y is at most half as long as there are points, or one longer
pub y_is_half : (f : Modulus) (k r : ℕ) (q : BiPoly) → IsOfField f q.qx q.qy → 1 ≤ k → weight k q.qx q.qy ≤ (r + k - 1) / 2 → 2 * length q.qy ≤ r + 2
y_is_half f k r q over low light = elim (cases_lt 0 (length q.qy)) [
  | inl positive ↦ omega (arith, y_length_cases f k (length q.qy) q over low refl positive, light, low)
  | inr none ↦ omega (arith, none)
]

pub y_is_short : (f : Modulus) (k r : ℕ) (q : BiPoly) → IsOfField f q.qx q.qy → 1 ≤ k → r + k ≤ 128 → weight k q.qx q.qy ≤ (r + k - 1) / 2 → length q.qy + k ≤ 128
y_is_short f k r q over low room light = elim (cases_lt 0 (length q.qy)) [
  | inl positive ↦ omega (arith, y_length_cases f k (length q.qy) q over low refl positive, room, light)
  | inr none ↦ omega (arith, none, room)
]

-- ---- the message

-- on a row of the codeword
value_on : (p : Parameters) → p.field.low < 2 ^ p.field.degree → (rows u : List ℕ) (q : BiPoly) → IsZeroOn p.field rows q → (x : ℕ)
    → in_span rows (row_of p x (value p.field u x)) ≡ true → value p.field q.qx x ≡ value p.field q.qy (value p.field u x)
value_on p h rows u q zero_on x inside =
    let f = p.field in
    let n = 2 ^ f.degree in
    let y = value f u x in
    let below = value-lt f h u x in
    let at : value_at f q.qx q.qy (row_of p x y / n) (row_of p x y % n) ≡ 0 = zero_on.zeros (row_of p x y) inside in
    let here : value_at f q.qx q.qy x y ≡ 0 = sym (ap₂ (value_at f q.qx q.qy) (div-mul-add x n y below) (mod-mul-add x n y below)) ∙ at in
    same_from_xor_zero (value f q.qx x) (value f q.qy y) here

zero_composition : (f : Modulus) → f.low < 2 ^ f.degree → (u : List ℕ) (i : ℕ) → slice_index (composition f [] u) i ≡ 0
zero_composition f h u i = slice_index-composition f h [] u i ∙ composed-none f h (slice_index u) i

pub solves : (p : Parameters) → IsCode p → 1 ≤ p.k → (rows u : List ℕ) (q : BiPoly) → Decodes p rows u → IsOfField p.field q.qx q.qy
    → (q.qx ≢ []) ⊎ (q.qy ≢ []) → IsZeroOn p.field rows q → weight p.k q.qx q.qy ≤ (dimension rows + p.k - 1) / 2 → Solves p.field q u
solves p code low rows u q d over some zero_on light =
    let f = p.field in
    let h = code.field.modulus.low_below in
    let c = codeword p u in
    let w = common_points p h rows u in
    let xs = w.0 in
    let r = dimension rows in
    let n = length xs in
    let radius = d.within in
    let most : r + p.k ≤ 2 * n =
    omega (arith, radius, distance_by_meet c rows, meet_dimension_comm c rows, w.2, dimension-codeword p h u, code.k_high) in
    let within : n ≤ r = omega (arith, w.2, meet_dimension-le_left rows c) in
    let heavy : weight p.k q.qx q.qy + 1 ≤ n = omega (arith, most, light, low) in
    let points_below = All-weaker (λ x. x < 2 ^ p.l) (λ x. x < 2 ^ f.degree) (λ x k. omega (arith, k, pow_mono code.l_high)) xs w.1.below in
    let same = All-weaker (λ x. in_span rows (row_of p x (value f u x)) ≡ true) (λ x. value f q.qx x ≡ value f q.qy (value f u x))
    (value_on p h rows u q zero_on) xs w.1.members in
    let x_past : (i : ℕ) → n ≤ i → slice_index q.qx i ≡ 0 =
    λ i from. get_or_past q.qx i 0 (omega (arith, from, heavy, x_length_cases f p.k (length q.qx) q over refl)) in
    let message = d.message.len in
    let room : length q.qy + length u - 1 ≤ n = elim (cases_lt 0 (length q.qy)) [
      | inl positive ↦ let y = y_length_cases f p.k (length q.qy) q over low refl positive in omega (arith, message, heavy, y)
      | inr none ↦ omega (arith, message, most, within, none)
    ] in
    let y_past : (i : ℕ) → n ≤ i → slice_index (composition f q.qy u) i ≡ 0 =
    λ i from. slice_index-composition f h q.qy u i
    ∙ composed-past f h (slice_index q.qy) (slice_index u) (length q.qy) (length u) i (λ j. get_or_past q.qy j 0) (λ j. get_or_past u j 0) (omega (arith, room, from)) in
    let exact = zero_from_interpolation f h code.field.irreducible q.qx q.qy u xs over.x.over points_below w.1.independent same x_past y_past in
    record {
      exact = exact;
      some = λ none.
          let all_zero : (i : ℕ) → slice_index q.qx i ≡ 0 =
          λ i. exact.coefficients i ∙ ap (λ l. slice_index (composition f l u) i) none ∙ zero_composition f h u i in
          let qx_is : q.qx ≡ [] = sym over.x.no_zero_at_end ∙ trimmed-zeros q.qx all_zero in
          elim some [ inl x_some ↦ x_some qx_is | inr y_some ↦ y_some none ];
    }
