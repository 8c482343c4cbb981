-- The worked values of specs/SpanExamples.antt as leading bits, a reduced form and two lists with one span.
use Rattle.std.proofs.Common.{◌≡◌, ℕ, ◌<◌, true, [], ◌∷◌, ap, ◌∙◌, arith}
use Rattle.std.specs.Int.{bit_at}
use Rattle.std.proofs.lemmas.List.Elements.{All-nil, All-cons}
use Rattle.kk_rows.specs.Span.{in_span, HaveSameSpan}
use Rattle.kk_rows.specs.Echelon.{IsLeadingBit, IsReduced}
use Rattle.kk_rows.specs.SpanExamples.{bit_four_of_eighteen, bit_three_of_eight, bit_zero_of_one, eighteen_at_three, eighteen_at_zero, eight_at_four, eight_at_zero, one_at_four, one_at_three, inserted_one, inserted_two, inserted_three, reduced_one, reduced_two, reduced_three}
use Rattle.kk_rows.proofs.Leading.{leading_bit_is_one}
use Rattle.kk_rows.proofs.Reduced.{AreApart, Reduces, IsReduced-from}

pub leading_bit_of_eighteen : IsLeadingBit 18 4
leading_bit_of_eighteen = record { is_one = bit_four_of_eighteen; none_above = omega arith }

pub leading_bit_of_eight : IsLeadingBit 8 3
leading_bit_of_eight = record { is_one = bit_three_of_eight; none_above = omega arith }

pub leading_bit_of_one : IsLeadingBit 1 0
leading_bit_of_one = record { is_one = bit_zero_of_one; none_above = omega arith }

-- two rows with known leading bits
apart : (upper lower p q : ℕ) → IsLeadingBit upper p → IsLeadingBit lower q → q < p → bit_at upper q ≡ 0 → bit_at lower p ≡ 0
    → AreApart upper lower
apart upper lower p q hp hq below clear_upper clear_lower = (
  λ i j hi hj. omega (arith, below, leading_bit_is_one upper i p hi hp, leading_bit_is_one lower j q hj hq),
  λ j hj. ap (bit_at upper) (leading_bit_is_one lower j q hj hq) ∙ clear_upper,
  λ i hi. ap (bit_at lower) (leading_bit_is_one upper i p hi hp) ∙ clear_lower,
)

pub reduced_form : IsReduced (18 ∷ 8 ∷ 1 ∷ [])
reduced_form =
    let eighteen_eight = apart 18 8 4 3 leading_bit_of_eighteen leading_bit_of_eight (omega arith) eighteen_at_three eight_at_four in
    let eighteen_one = apart 18 1 4 0 leading_bit_of_eighteen leading_bit_of_one (omega arith) eighteen_at_zero one_at_four in
    let eight_one = apart 8 1 3 0 leading_bit_of_eight leading_bit_of_one (omega arith) eight_at_zero one_at_three in
    let from_one : Reduces (1 ∷ []) = (omega arith, All-nil (AreApart 1), tt) in
    let from_eight : Reduces (8 ∷ 1 ∷ []) = (omega arith, All-cons (AreApart 8) 1 [] eight_one (All-nil (AreApart 8)), from_one) in
    let after_eighteen = All-cons (AreApart 18) 8 (1 ∷ []) eighteen_eight (All-cons (AreApart 18) 1 [] eighteen_one (All-nil (AreApart 18))) in
    IsReduced-from (18 ∷ 8 ∷ 1 ∷ []) (omega arith, after_eighteen, from_eight)

pub same_span : HaveSameSpan (9 ∷ 18 ∷ 8 ∷ []) (18 ∷ 8 ∷ 1 ∷ [])
same_span =
    let P : ℕ → Type 0 = λ r. in_span (18 ∷ 8 ∷ 1 ∷ []) r ≡ true in
    let Q : ℕ → Type 0 = λ r. in_span (9 ∷ 18 ∷ 8 ∷ []) r ≡ true in
    record {
      left_in_right = All-cons P 9 (18 ∷ 8 ∷ []) inserted_one (All-cons P 18 (8 ∷ []) inserted_two (All-cons P 8 [] inserted_three (All-nil P)));
      right_in_left = All-cons Q 18 (8 ∷ 1 ∷ []) reduced_one (All-cons Q 8 (1 ∷ []) reduced_two (All-cons Q 1 [] reduced_three (All-nil Q)));
    }
