-- Worked values over GF(8) with the modulus X^3 + X + 1.
use Rattle.std.specs.Prelude.{◌≡◌, refl, [], ◌∷◌, Some, None}
use Rattle.kk_field.specs.Polynomial.{product, product_below, remainder, remainder_below}
use Rattle.kk_field.specs.Field.{field_product, frobenius}
use Rattle.kk_field.specs.FieldExamples.{gf8}
use Rattle.kk_linpoly.specs.LinPoly.{degree, degree_with_first, sum_of, composition, xor_sum}

-- 5·X^2 is X^2 of 3·X, and 5·X of X^2
pub left_by_square : sum_of (composition gf8 (0 ∷ 1 ∷ []) (3 ∷ [])) [] ≡ 0 ∷ 5 ∷ []
unfolding sum_of composition xor_sum frobenius field_product product product_below remainder remainder_below
left_by_square = refl

pub right_by_square : sum_of (composition gf8 (5 ∷ []) (0 ∷ 1 ∷ [])) [] ≡ 0 ∷ 5 ∷ []
unfolding sum_of composition xor_sum frobenius field_product product product_below remainder remainder_below
right_by_square = refl

-- 6·X + 7·X^2 + X^4 by X + X^2: on the left 2·X is left, and on the right nothing
pub left_with_remainder : sum_of (composition gf8 (1 ∷ 1 ∷ []) (4 ∷ 1 ∷ [])) (2 ∷ []) ≡ 6 ∷ 7 ∷ 1 ∷ []
unfolding sum_of composition xor_sum frobenius field_product product product_below remainder remainder_below
left_with_remainder = refl

pub right_without_remainder : sum_of (composition gf8 (6 ∷ 1 ∷ []) (1 ∷ 1 ∷ [])) [] ≡ 6 ∷ 7 ∷ 1 ∷ []
unfolding sum_of composition xor_sum frobenius field_product product product_below remainder remainder_below
right_without_remainder = refl

-- the remainders are zero, or of a smaller degree than the divisor
pub degree_of_divisor : degree (1 ∷ 1 ∷ []) ≡ Some 1
unfolding degree degree_with_first
degree_of_divisor = refl

pub degree_of_remainder : degree (2 ∷ []) ≡ Some 0
unfolding degree degree_with_first
degree_of_remainder = refl

pub degree_of_no_remainder : degree [] ≡ None
unfolding degree
degree_of_no_remainder = refl
