-- The codeword is the graph of its polynomial, an additive map.
use Rattle.std.proofs.Common.{◌≡◌, ℕ, ◌/◌, ◌^◌, ◌<◌, true, List, [], ◌∷◌, length, map, refl, sym, ap, ap₂, ◌∙◌, subst, bit_xor}
use Rattle.std.specs.Prelude.{All}
use Rattle.std.proofs.lemmas.Nat.{xor_block, xor_shr, div-mul-add}
use Rattle.std.proofs.lemmas.Bool.{and_parts}
use Rattle.std.proofs.lemmas.List.{length-map}
use Rattle.std.proofs.lemmas.List.Elements.{All-map, All-weaker, All-head, All-tail}
use Rattle.kk_linpoly.specs.LinPoly.{value}
use Rattle.kk_linpoly.proofs.Values.{value-xor, value-lt}
use Rattle.kk_rows.specs.Span.{in_span, dimension, IsIndependent}
use Rattle.kk_rows.proofs.Spans.{in_span-each, in_span-lt}
use Rattle.kk_rows.proofs.Meets.{basis_of_meet}
use Rattle.kk_rows.specs.Distance.{meet_dimension}
use Rattle.kk_code.proofs.Values.{length-codeword}
use Rattle.kk_rows.specs.AdditiveMap.{IsAdditive}
use Rattle.kk_rows.proofs.AdditiveMaps.{in_span-map, in_span-of_map, independent_from_images, in_span-unit_rows, unit_rows-below, unit_rows-independent}
use Rattle.kk_code.specs.Codeword.{Parameters, row_of, points, codeword}

-- ---- the codeword is the graph of the polynomial

module _ (p : Parameters) (h : p.field.low < 2 ^ p.field.degree) where
  -- the row of the codeword at x
  abbrev pub row_at : List ℕ → ℕ → ℕ
  row_at u x = row_of p x (value p.field u x)

  row_at-additive : (u : List ℕ) → IsAdditive (row_at u)
  row_at-additive u = λ a b. ap (row_of p (bit_xor a b)) (value-xor p.field h u a b)
      ∙ sym (xor_block p.field.degree a b (value p.field u a) (value p.field u b) (value-lt p.field h u a) (value-lt p.field h u b))

  x_part-additive : IsAdditive (λ w. w / 2 ^ p.field.degree)
  x_part-additive = λ a b. xor_shr a b p.field.degree

  x_part-row_at : (u : List ℕ) (x : ℕ) → row_at u x / 2 ^ p.field.degree ≡ x
  x_part-row_at u x = div-mul-add x (2 ^ p.field.degree) (value p.field u x) (value-lt p.field h u x)

  -- a row of the graph at a point below 2^l is in the codeword
  pub in_codeword : (u : List ℕ) (x : ℕ) → x < 2 ^ p.l → in_span (codeword p u) (row_at u x) ≡ true
  in_codeword u x below = in_span-map (row_at u) (row_at-additive u) (points p) x (in_span-unit_rows p.l x below)

  -- and no other
  pub row_from_codeword : (u : List ℕ) (w : ℕ) → in_span (codeword p u) w ≡ true
      → (w / 2 ^ p.field.degree < 2 ^ p.l) × (row_at u (w / 2 ^ p.field.degree) ≡ w)
  row_from_codeword u w inside =
      let v = in_span-of_map (row_at u) (row_at-additive u) (points p) w inside in
      let x_is : v.0 ≡ w / 2 ^ p.field.degree = sym (x_part-row_at u v.0) ∙ ap (λ x. x / 2 ^ p.field.degree) v.2 in (
        subst (λ x. x < 2 ^ p.l) x_is (in_span-lt p.l (points p) (unit_rows-below p.l) v.0 v.1),
        subst (λ x. row_at u x ≡ w) x_is v.2,
      )

  x_parts_of_rows : (u xs : List ℕ) → map (λ w. w / 2 ^ p.field.degree) (map (row_at u) xs) ≡ xs
  x_parts_of_rows u [] = refl
  x_parts_of_rows u (x ∷ xs) = ap₂ ◌∷◌ (x_part-row_at u x) (x_parts_of_rows u xs)

  pub codeword_is_independent : (u : List ℕ) → IsIndependent (codeword p u)
  codeword_is_independent u =
      independent_from_images (λ w. w / 2 ^ p.field.degree) x_part-additive (codeword p u)
      (subst IsIndependent (sym (x_parts_of_rows u (points p))) (unit_rows-independent p.l))

  pub dimension-codeword : (u : List ℕ) → dimension (codeword p u) ≡ p.l
  dimension-codeword u = codeword_is_independent u ∙ length-codeword p u

  rows_of_x_parts : (u ws : List ℕ) → All (λ w. row_at u (w / 2 ^ p.field.degree) ≡ w) ws → map (row_at u) (map (λ w. w / 2 ^ p.field.degree) ws) ≡ ws
  rows_of_x_parts u [] each = refl
  rows_of_x_parts u (w ∷ ws) each =
      let P : ℕ → Type 0 = λ w. row_at u (w / 2 ^ p.field.degree) ≡ w in
      ap₂ ◌∷◌ (All-head P w ws each) (rows_of_x_parts u ws (All-tail P w ws each))

-- independent points below 2^l at which the rows of a codeword are in a span
pub record CommonPoints (p : Parameters) (rows u xs : List ℕ) : Type 0 where
  pub below : All (λ x. x < 2 ^ p.l) xs
  pub independent : IsIndependent xs
  pub members : All (λ x. in_span rows (row_of p x (value p.field u x)) ≡ true) xs

-- there are as many as the dimension of the meet
pub common_points : (p : Parameters) → p.field.low < 2 ^ p.field.degree → (rows u : List ℕ)
    → (xs : List ℕ) × CommonPoints p rows u xs × (length xs ≡ meet_dimension rows (codeword p u))
common_points p h rows u =
    let meet = basis_of_meet rows (codeword p u) in
    let ws = meet.0 in
    let x_part : ℕ → ℕ = λ w. w / 2 ^ p.field.degree in
    let both : (w : ℕ) → in_span ws w ≡ true → (in_span rows w ≡ true) × (in_span (codeword p u) w ≡ true) =
    λ w k. and_parts (in_span rows w) (in_span (codeword p u) w) (sym (meet.1.spans w) ∙ k) in
    let back : (w : ℕ) → in_span ws w ≡ true → row_at p h u (x_part w) ≡ w = λ w k. (row_from_codeword p h u w (both w k).1).1 in
    let In : ℕ → Type 0 = λ w. in_span ws w ≡ true in
    let each : All In ws = in_span-each ws in
    let all_back = All-weaker In (λ w. row_at p h u (x_part w) ≡ w) back ws each in (
      map x_part ws,
      record {
        below = All-map (λ x. x < 2 ^ p.l) x_part ws (All-weaker In (λ w. x_part w < 2 ^ p.l) (λ w k. (row_from_codeword p h u w (both w k).1).0) ws each);
        independent = independent_from_images (row_at p h u) (row_at-additive p h u) (map x_part ws)
            (subst IsIndependent (sym (rows_of_x_parts p h u ws all_back)) meet.1.independent);
        members = All-map (λ x. in_span rows (row_at p h u x) ≡ true) x_part ws
            (All-weaker In (λ w. in_span rows (row_at p h u (x_part w)) ≡ true)
            (λ w k. subst (λ r. in_span rows r ≡ true) (sym (back w k)) (both w k).0) ws each);
      },
      length-map ws x_part ∙ sym meet.2,
    )
