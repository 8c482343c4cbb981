-- Independent rows: exchange, bounds and extension to a basis, at any width.
use Rattle.std.proofs.Common.{◌≡◌, ℕ, ◌≤◌, true, false, List, [], ◌∷◌, ◌++◌, length, sym, ap, ◌∙◌, subst, inl, inr, arith, length-append}
use Rattle.std.specs.Prelude.{All}
use Rattle.std.proofs.lemmas.Bool.{cases_Bool, both_ways}
use Rattle.std.proofs.lemmas.Nat.{xor_comm}
use Rattle.kk_rows.specs.Span.{in_span, innovative, innovative_after, dimension, IsIndependent}
use Rattle.kk_rows.proofs.Spans.{in_span-push_cases, in_span-push_use, in_span-within}
use Rattle.kk_rows.proofs.Dimensions.{innovative_after-nil, innovative_after_inside, innovative_after_outside, innovative_after-append, length_after_le, dimension-push_outside, dimension-le_within, dimension-le_length, in_span_innovative, innovative_is_independent}

-- a row that the addition of v brings in brings in v
pub in_span-exchange : (rows : List ℕ) (v w : ℕ) → in_span (rows ++ v ∷ []) w ≡ true → in_span rows w ≡ false → in_span (rows ++ w ∷ []) v ≡ true
in_span-exchange rows v w h outside = elim (in_span-push_cases rows v w h) [
  | inl old ↦ absurd (both_ways _ outside old)
  | inr moved ↦ in_span-push_use rows w v (subst (λ x. in_span rows x ≡ true) (xor_comm w v) moved)
]

-- independent rows in a span are at most as many as the rows that span it
pub independent-le_spanning : (rows spanning : List ℕ) → IsIndependent rows → All (λ r. in_span spanning r ≡ true) rows → length rows ≤ length spanning
independent-le_spanning rows spanning h each =
    omega (arith, dimension-le_within rows spanning (in_span-within rows spanning each), dimension-le_length spanning, h)

-- and are as many as its dimension at most
pub independent-le_dimension : (rows spanning : List ℕ) → IsIndependent rows → All (λ r. in_span spanning r ≡ true) rows → length rows ≤ dimension spanning
independent-le_dimension rows spanning h each =
    omega (arith, dimension-le_within rows spanning (in_span-within rows spanning each), h)

pub independent-push : (rows : List ℕ) (v : ℕ) → IsIndependent rows → in_span rows v ≡ false → IsIndependent (rows ++ v ∷ [])
independent-push rows v h outside =
    omega (arith, dimension-push_outside rows v outside, h, length-append rows (v ∷ []))

all_after : (before rows : List ℕ) → length (innovative_after before rows) ≡ length rows → innovative_after before rows ≡ rows
all_after before [] h = innovative_after-nil before
all_after before (r ∷ rows) h = elim (cases_Bool (in_span before r)) [
  | inl inside ↦
      let fewer = length_after_le (before ++ r ∷ []) rows in
      let e = ap length (innovative_after_inside before r rows inside) in
      absurd (omega arith)
  | inr outside ↦
      let e = ap length (innovative_after_outside before r rows outside) in
      innovative_after_outside before r rows outside ∙ ap (λ l. r ∷ l) (all_after (before ++ r ∷ []) rows (omega arith))
]

-- each of some independent rows is innovative
pub innovative_of_independent : (rows : List ℕ) → IsIndependent rows → innovative rows ≡ rows
innovative_of_independent rows h = all_after [] rows h

-- the rows before some of a list of independent rows are independent
pub independent-front : (front back : List ℕ) → IsIndependent (front ++ back) → IsIndependent front
independent-front front back h =
    let parts = ap length (innovative_after-append [] front back) in
    omega (arith, h, parts, length-append (innovative front) (innovative_after front back), length-append front back, length_after_le [] front, length_after_le front back)

-- independent rows, and those of more rows that are innovative after them, are a basis of the span of both
pub innovative-extends : (rows more : List ℕ) → IsIndependent rows → innovative (rows ++ more) ≡ rows ++ innovative_after rows more
innovative-extends rows more h =
    innovative_after-append [] rows more ∙ ap (λ l. l ++ innovative_after rows more) (innovative_of_independent rows h)

-- the same as independence and span
pub independent-extended : (rows more : List ℕ) → IsIndependent rows → IsIndependent (rows ++ innovative_after rows more) × ((x : ℕ) → in_span (rows ++ innovative_after rows more) x ≡ in_span (rows ++ more) x)
independent-extended rows more h =
    let e = innovative-extends rows more h in
    (subst IsIndependent e (innovative_is_independent (rows ++ more)), λ x. ap (λ l. in_span l x) (sym e) ∙ in_span_innovative (rows ++ more) x)
