-- Worked values over GF(8) with the modulus X^3 + X + 1.
use Rattle.std.specs.Prelude.{◌≡◌, ℕ, List, refl, [], ◌∷◌}
use Rattle.kk_field.specs.Polynomial.{product, product_below, remainder, remainder_below}
use Rattle.kk_field.specs.Field.{field_product, frobenius}
use Rattle.kk_field.specs.FieldExamples.{gf8}
use Rattle.kk_linpoly.specs.LinPoly.{value_from, degree, degree_with_first}
use Rattle.kk_interp.specs.BiPoly.{value_at, part_weight, weight}
use Rattle.kk_interp.specs.Pair.{lesser}

-- the parts of 5·x + y
abbrev pub five_x : List ℕ
five_x = 5 ∷ []

abbrev pub y : List ℕ
y = 1 ∷ []

-- it is 0 at (1, 5), (2, 1) and (4, 2)
pub line_at_one : value_at gf8 five_x y 1 5 ≡ 0
unfolding value_from frobenius field_product product product_below remainder remainder_below
line_at_one = refl

pub line_at_two : value_at gf8 five_x y 2 1 ≡ 0
unfolding value_from frobenius field_product product product_below remainder remainder_below
line_at_two = refl

pub line_at_four : value_at gf8 five_x y 4 2 ≡ 0
unfolding value_from frobenius field_product product product_below remainder remainder_below
line_at_four = refl

pub line_elsewhere : value_at gf8 five_x y 1 1 ≡ 4
unfolding value_from frobenius field_product product product_below remainder remainder_below
line_elsewhere = refl

-- at k = 1 both parts weigh 0, and at k = 3 that in y weighs 2
pub line_weighs_nothing : weight 1 five_x y ≡ 0
unfolding weight part_weight degree degree_with_first
line_weighs_nothing = refl

pub line_weighs_two : weight 3 five_x y ≡ 2
unfolding weight part_weight degree degree_with_first
line_weighs_two = refl

-- the part in x weighs most
pub square_weighs_one : weight 1 (0 ∷ 1 ∷ []) y ≡ 1
unfolding weight part_weight degree degree_with_first
square_weighs_one = refl

-- with k = 3 the lesser polynomial of x and y is x
pub least_of_no_points : lesser 3 (record { qx = 1 ∷ []; qy = [] }) (record { qx = []; qy = 1 ∷ [] }) ≡ record { qx = 1 ∷ []; qy = [] }
unfolding lesser weight part_weight degree degree_with_first
least_of_no_points = refl
