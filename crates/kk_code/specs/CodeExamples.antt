-- Worked values over GF(8) with the modulus X^3 + X + 1, l = 3 and k = 1: a row is 8·x + y, and the radius is 2.
use Rattle.std.specs.Prelude.{◌≡◌, refl, Some, None, [], ◌∷◌}
use Rattle.kk_field.specs.Polynomial.{product, product_below, remainder, remainder_below}
use Rattle.kk_field.specs.Field.{field_product, frobenius}
use Rattle.kk_field.specs.FieldExamples.{gf8}
use Rattle.kk_linpoly.specs.LinPoly.{value_from}
use Rattle.kk_rows.specs.Span.{in_span, innovative_after}
use Rattle.kk_rows.specs.Distance.{distance}
use Rattle.kk_code.specs.Codeword.{Parameters, codeword}
use Rattle.kk_code.specs.Decoding.{erased, injected, within_radius, message_at, answer}

abbrev pub small : Parameters
small = record { field = gf8; l = 3; k = 1 }

pub codeword_of_five : codeword small (5 ∷ []) ≡ 13 ∷ 17 ∷ 34 ∷ []
unfolding value_from frobenius field_product product product_below remainder remainder_below
codeword_of_five = refl

pub codewords_six_apart : distance (codeword small (1 ∷ [])) (codeword small (0 ∷ [])) ≡ 6
unfolding innovative_after in_span value_from frobenius field_product product product_below remainder remainder_below
codewords_six_apart = refl

-- one dimension erased and one injected: on the radius
pub one_erased : erased small (9 ∷ 18 ∷ 8 ∷ []) (1 ∷ []) ≡ 1
unfolding innovative_after in_span value_from frobenius field_product product product_below remainder remainder_below
one_erased = refl

pub one_injected : injected small (9 ∷ 18 ∷ 8 ∷ []) (1 ∷ []) ≡ 1
unfolding innovative_after in_span value_from frobenius field_product product product_below remainder remainder_below
one_injected = refl

pub on_the_radius : answer small (9 ∷ 18 ∷ 8 ∷ []) ≡ Some (1 ∷ [])
unfolding answer within_radius message_at innovative_after in_span value_from frobenius field_product product product_below remainder remainder_below
on_the_radius = refl

-- two and two: beyond it, and no other message is nearer
pub two_erased : erased small (9 ∷ 8 ∷ 4 ∷ []) (1 ∷ []) ≡ 2
unfolding innovative_after in_span value_from frobenius field_product product product_below remainder remainder_below
two_erased = refl

pub beyond_the_radius : answer small (9 ∷ 8 ∷ 4 ∷ []) ≡ None
unfolding answer within_radius message_at innovative_after in_span value_from frobenius field_product product product_below remainder remainder_below
beyond_the_radius = refl

-- one row of a codeword is enough here, a foreign row or none isn't
pub one_row : answer small (8 ∷ []) ≡ Some (0 ∷ [])
unfolding answer within_radius message_at innovative_after in_span value_from frobenius field_product product product_below remainder remainder_below
one_row = refl

pub one_foreign_row : answer small (1 ∷ []) ≡ None
unfolding answer within_radius message_at innovative_after in_span value_from frobenius field_product product product_below remainder remainder_below
one_foreign_row = refl

pub no_rows : answer small [] ≡ None
unfolding answer within_radius message_at innovative_after in_span value_from frobenius field_product product product_below remainder remainder_below
no_rows = refl
