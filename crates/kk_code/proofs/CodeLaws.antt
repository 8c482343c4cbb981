-- Codewords are graphs, they are far apart, and at most one message decodes a space.
use Rattle.std.proofs.Common.{◌≡◌, ◌+◌, ◌-◌, ℕ, ◌/◌, ◌%◌, ◌^◌, ◌<◌, ◌≤◌, true, List, length, sym, ap, ◌∙◌, subst, inl, inr, arith}
use Rattle.std.specs.Prelude.{slice_index}
use Rattle.std.proofs.lemmas.Bool.{cases_lt}
use Rattle.std.proofs.lemmas.Nat.{div-mul-add, mod-mul-add}
use Rattle.std.proofs.Math.Pow.{pow_mono}
use Rattle.std.proofs.lemmas.List.{ext_get_or, get_or_past}
use Rattle.std.proofs.lemmas.List.Elements.{All-weaker}
use Rattle.kk_linpoly.specs.LinPoly.{SamePolynomial, value}
use Rattle.kk_linpoly.proofs.Values.{value-lt}
use Rattle.kk_linpoly.proofs.Roots.{same_from_values}
use Rattle.kk_rows.specs.Span.{in_span}
use Rattle.kk_rows.specs.Distance.{distance, meet_dimension}
use Rattle.kk_rows.proofs.Distances.{distance_by_meet, distance_comm, distance_triangle}
use Rattle.kk_code.specs.Codeword.{Parameters, IsCode, IsMessage, row_of, codeword}
use Rattle.kk_code.specs.Decoding.{Decodes}
use Rattle.kk_code.specs.Laws.{CodewordIsAGraph, CodewordsAreFarApart, DecodingIsUnique}
use Rattle.kk_code.proofs.Graphs.{in_codeword, row_from_codeword, dimension-codeword, common_points}

-- the parts of a row of a codeword
pub value_from_codeword : (p : Parameters) → p.field.low < 2 ^ p.field.degree → (u : List ℕ) (x y : ℕ) → y < 2 ^ p.field.degree
    → in_span (codeword p u) (row_of p x y) ≡ true → (x < 2 ^ p.l) × (y ≡ value p.field u x)
value_from_codeword p h u x y below inside =
    let n = 2 ^ p.field.degree in
    let row = row_from_codeword p h u (row_of p x y) inside in
    let x_is : row_of p x y / n ≡ x = div-mul-add x n y below in
    let here : row_of p x (value p.field u x) ≡ row_of p x y = subst (λ a. row_of p a (value p.field u a) ≡ row_of p x y) x_is row.1 in (
      subst (λ a. a < 2 ^ p.l) x_is row.0,
      sym (mod-mul-add x n y below) ∙ ap (λ w. w % n) (sym here) ∙ mod-mul-add x n (value p.field u x) (value-lt p.field h u x),
    )

pub codeword_is_a_graph : CodewordIsAGraph
codeword_is_a_graph p code u x y below =
    let h = code.field.modulus.low_below in (
      value_from_codeword p h u x y below,
      λ k. subst (λ a. in_span (codeword p u) (row_of p x a) ≡ true) (sym k.1) (in_codeword p h u x k.0),
    )

same_list : (u v : List ℕ) → length u ≡ length v → SamePolynomial u v → u ≡ v
same_list u v len same = ext_get_or 0 u v len (λ i less. same.coefficients i)

-- messages whose codewords have k dimensions in common are equal
pub same_message : (p : Parameters) → IsCode p → (u v : List ℕ) → IsMessage p u → IsMessage p v
    → p.k ≤ meet_dimension (codeword p u) (codeword p v) → u ≡ v
same_message p code u v hu hv common =
    let f = p.field in
    let h = code.field.modulus.low_below in
    let w = common_points p h (codeword p u) v in
    let xs = w.0 in
    let more : p.k ≤ length xs = omega (arith, common, w.2) in
    let points_below = All-weaker (λ x. x < 2 ^ p.l) (λ x. x < 2 ^ f.degree) (λ x k. omega (arith, k, pow_mono code.l_high)) xs w.1.below in
    let same_values = All-weaker (λ x. in_span (codeword p u) (row_of p x (value f v x)) ≡ true) (λ x. value f u x ≡ value f v x)
    (λ x k. sym (value_from_codeword p h u x (value f v x) (value-lt f h v x) k).1) xs w.1.members in
    let past : (i : ℕ) → length xs ≤ i → slice_index u i ≡ slice_index v i =
    λ i from. get_or_past u i 0 (omega (arith, from, hu.len)) ∙ sym (get_or_past v i 0 (omega (arith, from, hv.len))) in
    same_list u v (hu.len ∙ sym hv.len)
    (same_from_values f h code.field.irreducible u v xs hu.symbols hv.symbols points_below w.1.independent same_values past)

pub codewords_are_far_apart : CodewordsAreFarApart
codewords_are_far_apart p code u v hu hv differ =
    let h = code.field.modulus.low_below in
    elim (cases_lt (meet_dimension (codeword p u) (codeword p v)) p.k) [
      | inl few ↦ omega (arith, few, distance_by_meet (codeword p u) (codeword p v), dimension-codeword p h u, dimension-codeword p h v, code.k_high)
      | inr many ↦ absurd (differ (same_message p code u v hu hv many))
    ]

-- a message whose codeword is at most one dimension beyond the radius of a space is the one that decodes it
pub near_is_same : (p : Parameters) → IsCode p → (rows u v : List ℕ) → IsMessage p u → distance (codeword p u) rows ≤ p.l - p.k + 1
    → Decodes p rows v → u ≡ v
near_is_same p code rows u v message near decodes =
    let h = code.field.modulus.low_below in
    let a = codeword p u in
    let b = codeword p v in
    same_message p code u v message decodes.message
    (omega (arith, distance_by_meet a b, distance_triangle a rows b, distance_comm rows b, near, decodes.within, dimension-codeword p h u, dimension-codeword p h v, code.k_high))

pub decoding_is_unique : DecodingIsUnique
decoding_is_unique p code rows u v du dv = near_is_same p code rows u v du.message (omega (arith, du.within)) dv
