-- Worked values over GF(8) with the modulus X^3 + X + 1.
use Rattle.std.specs.Prelude.{◌≡◌, refl, [], ◌∷◌, Some, None}
use Rattle.kk_field.specs.Polynomial.{product, product_below, remainder, remainder_below}
use Rattle.kk_field.specs.Field.{field_product, frobenius}
use Rattle.kk_field.specs.FieldExamples.{gf8}
use Rattle.kk_linpoly.specs.LinPoly.{value, value_from, trimmed, with_first, degree, degree_with_first, IsMonic, sum_of, scaled, composition, xor_sum, squared_up, raised}

-- 6·x + 7·x^2 + x^4 is 0 at 1 and at 2, and so at their sum
pub zero_at_one : value gf8 (6 ∷ 7 ∷ 1 ∷ []) 1 ≡ 0
unfolding value_from frobenius field_product product product_below remainder remainder_below
zero_at_one = refl

pub zero_at_two : value gf8 (6 ∷ 7 ∷ 1 ∷ []) 2 ≡ 0
unfolding value_from frobenius field_product product product_below remainder remainder_below
zero_at_two = refl

pub zero_at_three : value gf8 (6 ∷ 7 ∷ 1 ∷ []) 3 ≡ 0
unfolding value_from frobenius field_product product product_below remainder remainder_below
zero_at_three = refl

-- zeros at the end go, and others stay
pub zeros_go : trimmed (0 ∷ 5 ∷ 0 ∷ 0 ∷ []) ≡ 0 ∷ 5 ∷ []
unfolding trimmed with_first
zeros_go = refl

pub all_zeros_go : trimmed (0 ∷ 0 ∷ []) ≡ []
unfolding trimmed with_first
all_zeros_go = refl

pub degree_one : degree (0 ∷ 5 ∷ 0 ∷ 0 ∷ []) ≡ Some 1
unfolding degree degree_with_first
degree_one = refl

pub monic_of_degree_two : IsMonic (6 ∷ 7 ∷ 1 ∷ []) 2
unfolding degree degree_with_first
monic_of_degree_two = record { degree_is = refl; leads = refl }

pub degree_of_zero : degree (0 ∷ 0 ∷ []) ≡ None
unfolding degree degree_with_first
degree_of_zero = refl

pub sum_by_places : sum_of (6 ∷ 7 ∷ []) (3 ∷ 7 ∷ 1 ∷ []) ≡ 5 ∷ 0 ∷ 1 ∷ []
unfolding sum_of
sum_by_places = refl

-- 2 times 1, 2, 4
pub twice : scaled gf8 2 (1 ∷ 2 ∷ 4 ∷ []) ≡ 2 ∷ 4 ∷ 3 ∷ []
unfolding field_product product product_below remainder remainder_below
twice = refl

-- X^2 of 3·X, and 3·X of X^2: composition isn't commutative
pub square_of_three : composition gf8 (0 ∷ 1 ∷ []) (3 ∷ []) ≡ 0 ∷ 5 ∷ []
unfolding composition xor_sum frobenius field_product product product_below remainder remainder_below
square_of_three = refl

pub three_of_square : composition gf8 (3 ∷ []) (0 ∷ 1 ∷ []) ≡ 0 ∷ 3 ∷ []
unfolding composition xor_sum frobenius field_product product product_below remainder remainder_below
three_of_square = refl

pub squared_three : squared_up gf8 (3 ∷ []) ≡ 0 ∷ 5 ∷ []
unfolding field_product product product_below remainder remainder_below
squared_three = refl

-- X + X^2 is the square of X plus 1 times it, which is 0 at 1; one point more, 2, takes it to 6·X + 7·X^2 + X^4
pub raised_for_one : raised gf8 1 (1 ∷ []) ≡ 1 ∷ 1 ∷ []
unfolding sum_of field_product product product_below remainder remainder_below
raised_for_one = refl

pub raised_for_two : raised gf8 (value gf8 (1 ∷ 1 ∷ []) 2) (1 ∷ 1 ∷ []) ≡ 6 ∷ 7 ∷ 1 ∷ []
unfolding sum_of value_from frobenius field_product product product_below remainder remainder_below
raised_for_two = refl

-- X + 2·X^2 after 3·X + X^2: the two terms at X^2, 1·1 and 2·3^2, cancel
pub terms_cancel : composition gf8 (1 ∷ 2 ∷ []) (3 ∷ 1 ∷ []) ≡ 3 ∷ 0 ∷ 2 ∷ []
unfolding composition xor_sum frobenius field_product product product_below remainder remainder_below
terms_cancel = refl
