-- Worked values in the space of the rows of six bits.
use Rattle.std.specs.Prelude.{◌≡◌, refl, true, false, [], ◌∷◌, fold}
use Rattle.std.specs.Int.{bit_at}
use Rattle.kk_rows.specs.Span.{in_span, innovative, innovative_after}
use Rattle.kk_rows.specs.Distance.{sum_dimension, meet_dimension, distance}
use Rattle.kk_rows.specs.Echelon.{cleared}

-- 9, 18 and 8 are independent, and 1 is the sum of 9 and 8
pub three_innovative : innovative (9 ∷ 18 ∷ 8 ∷ 1 ∷ []) ≡ 9 ∷ 18 ∷ 8 ∷ []
unfolding innovative_after in_span
three_innovative = refl

pub four_not_in_span : in_span (9 ∷ 18 ∷ 8 ∷ []) 12 ≡ false
unfolding in_span
four_not_in_span = refl

pub one_in_span : in_span (9 ∷ 18 ∷ 8 ∷ []) 1 ≡ true
unfolding in_span
one_in_span = refl

-- the span of 9, 18, 8 meets that of 9, 18, 36 in two dimensions
pub sum_is_four : sum_dimension (9 ∷ 18 ∷ 8 ∷ []) (9 ∷ 18 ∷ 36 ∷ []) ≡ 4
unfolding innovative_after in_span
sum_is_four = refl

pub meet_is_two : meet_dimension (9 ∷ 18 ∷ 8 ∷ []) (9 ∷ 18 ∷ 36 ∷ []) ≡ 2
unfolding innovative_after in_span
meet_is_two = refl

-- two codewords of three rows that meet in 0 alone are 6 apart
pub six_apart : distance (13 ∷ 17 ∷ 34 ∷ []) (8 ∷ 16 ∷ 32 ∷ []) ≡ 6
unfolding innovative_after in_span
six_apart = refl

-- ---- 18, 8, 1 is the reduced form of 9, 18, 8: proofs/Examples.antt has it as `IsReduced` and `HaveSameSpan`

-- the leading bits are the bits 4, 3 and 0
pub bit_four_of_eighteen : bit_at 18 4 ≡ 1
bit_four_of_eighteen = refl

pub bit_three_of_eight : bit_at 8 3 ≡ 1
bit_three_of_eight = refl

pub bit_zero_of_one : bit_at 1 0 ≡ 1
bit_zero_of_one = refl

-- and each is 0 in the two other rows
pub eighteen_at_three : bit_at 18 3 ≡ 0
eighteen_at_three = refl

pub eighteen_at_zero : bit_at 18 0 ≡ 0
eighteen_at_zero = refl

pub eight_at_four : bit_at 8 4 ≡ 0
eight_at_four = refl

pub eight_at_zero : bit_at 8 0 ≡ 0
eight_at_zero = refl

pub one_at_four : bit_at 1 4 ≡ 0
one_at_four = refl

pub one_at_three : bit_at 1 3 ≡ 0
one_at_three = refl

-- each row of the one is in the span of the other
pub inserted_one : in_span (18 ∷ 8 ∷ 1 ∷ []) 9 ≡ true
unfolding in_span
inserted_one = refl

pub inserted_two : in_span (18 ∷ 8 ∷ 1 ∷ []) 18 ≡ true
unfolding in_span
inserted_two = refl

pub inserted_three : in_span (18 ∷ 8 ∷ 1 ∷ []) 8 ≡ true
unfolding in_span
inserted_three = refl

pub reduced_one : in_span (9 ∷ 18 ∷ 8 ∷ []) 18 ≡ true
unfolding in_span
reduced_one = refl

pub reduced_two : in_span (9 ∷ 18 ∷ 8 ∷ []) 8 ≡ true
unfolding in_span
reduced_two = refl

pub reduced_three : in_span (9 ∷ 18 ∷ 8 ∷ []) 1 ≡ true
unfolding in_span
reduced_three = refl

-- it leaves 4 of 12, and nothing of 27
pub four_is_left : fold cleared 12 (18 ∷ 8 ∷ 1 ∷ []) ≡ 4
four_is_left = refl

pub nothing_is_left : fold cleared 27 (18 ∷ 8 ∷ 1 ∷ []) ≡ 0
nothing_is_left = refl
