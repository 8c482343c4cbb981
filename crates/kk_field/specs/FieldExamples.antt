-- Worked values in GF(8) with the modulus X^3 + X + 1.
use Rattle.std.specs.Prelude.{◌≡◌, ℕ, suc, zero, true, false, refl, List, [], ◌∷◌, filter}
use Rattle.std.specs.List.{range_with_len}
use Rattle.kk_field.specs.Polynomial.{product, product_below, irreducible, remainder, remainder_below}
use Rattle.kk_field.specs.Field.{Modulus, field_product, frobenius}

abbrev pub gf8 : Modulus
gf8 = record { degree = 3; low = 3 }

-- a, a·X, a·X^2, .. as residues
pub powers_from : ℕ → ℕ → List ℕ
powers_from a zero = []
powers_from a (suc n) = a ∷ powers_from (field_product gf8 2 a) n

-- the powers of X, which run through all elements except 0
pub powers_of_two : powers_from 1 7 ≡ 1 ∷ 2 ∷ 4 ∷ 3 ∷ 6 ∷ 7 ∷ 5 ∷ []
unfolding powers_from field_product product product_below remainder remainder_below
powers_of_two = refl

-- 5 and 2 are inverse to each other, and 5 is the square of 3
pub five_times_two : field_product gf8 5 2 ≡ 1
unfolding field_product product product_below remainder remainder_below
five_times_two = refl

pub three_squared : frobenius gf8 1 3 ≡ 5
unfolding frobenius field_product product product_below remainder remainder_below
three_squared = refl

-- X^4 + X^2 + 1 is the square of X^2 + X + 1, and X^4 + X is (X^2 + X + 1)(X^2 + X)
pub a_square : product 7 7 ≡ 21
unfolding product product_below
a_square = refl

pub two_factors : product 7 6 ≡ 18
unfolding product product_below
two_factors = refl

-- X^4 + X^2 + 1 is (X^3 + X + 1)·X, and X + 1 is left: proofs/Examples.antt has it as `IsRemainder`
pub three_is_left : remainder 3 11 21 ≡ 3
unfolding remainder remainder_below
three_is_left = refl

pub times_x : product 11 2 ≡ 22
unfolding product product_below
times_x = refl

-- the irreducible polynomials of degree at most 3: X, X + 1, X^2 + X + 1, X^3 + X + 1 and X^3 + X^2 + 1
pub irreducible_below_sixteen : filter irreducible (range_with_len 0 16) ≡ 2 ∷ 3 ∷ 7 ∷ 11 ∷ 13 ∷ []
unfolding irreducible product product_below
irreducible_below_sixteen = refl

pub seven_is_irreducible : irreducible 7 ≡ true
unfolding irreducible product product_below
seven_is_irreducible = refl

pub eleven_is_irreducible : irreducible 11 ≡ true
unfolding irreducible product product_below
eleven_is_irreducible = refl

-- X^2 + 1 is the square of X + 1
pub five_is_reducible : irreducible 5 ≡ false
unfolding irreducible product product_below
five_is_reducible = refl
