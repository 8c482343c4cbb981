-- The codeword of 5 over GF(8), with the rows 13, 17 and 34, through a channel. A row is 8·x + y, and the radius is 2.
use Rattle.std.specs.Prelude.{◌≡◌, refl, ℕ, Some, [], ◌∷◌, slice_index}
use Rattle.kk_field.specs.Polynomial.{product, product_below, remainder, remainder_below}
use Rattle.kk_field.specs.Field.{field_product, frobenius}
use Rattle.kk_linpoly.specs.LinPoly.{value_from}
use Rattle.kk_rows.specs.Span.{in_span, innovative_after}
use Rattle.kk_rows.specs.Combination.{combination}
use Rattle.kk_code.specs.Codeword.{codeword}
use Rattle.kk_code.specs.CodeExamples.{small}
use Rattle.kk_code.specs.Decoding.{erased, injected, within_radius, message_at, answer}
use Rattle.kk_channel.specs.Channel.{channel_rows}

-- the words 0, 1, 3, 0 and 1
abbrev pub five_words : ℕ → ℕ
five_words i = slice_index (0 ∷ 1 ∷ 3 ∷ 0 ∷ 1 ∷ []) i

-- one dimension erased and one injected
pub one_of_each : channel_rows five_words (codeword small (5 ∷ [])) 1 1 ≡ 28 ∷ 62 ∷ 12 ∷ []
unfolding combination value_from frobenius field_product product product_below remainder remainder_below
one_of_each = refl

pub one_erased : erased small (28 ∷ 62 ∷ 12 ∷ []) (5 ∷ []) ≡ 1
unfolding innovative_after in_span value_from frobenius field_product product product_below remainder remainder_below
one_erased = refl

pub one_injected : injected small (28 ∷ 62 ∷ 12 ∷ []) (5 ∷ []) ≡ 1
unfolding innovative_after in_span value_from frobenius field_product product product_below remainder remainder_below
one_injected = refl

-- on the radius
pub five_is_the_answer : answer small (28 ∷ 62 ∷ 12 ∷ []) ≡ Some (5 ∷ [])
unfolding answer within_radius message_at innovative_after in_span value_from frobenius field_product product product_below remainder remainder_below
five_is_the_answer = refl

-- nothing erased and nothing injected
pub only_mixed : channel_rows five_words (codeword small (5 ∷ [])) 0 0 ≡ 13 ∷ 28 ∷ 62 ∷ []
unfolding combination value_from frobenius field_product product product_below remainder remainder_below
only_mixed = refl

-- the words 7, 1, 3, 5, 1, 7 and 2: of 7 the first row takes nothing, and the second row injected the lowest bit
abbrev pub seven_words : ℕ → ℕ
seven_words i = slice_index (7 ∷ 1 ∷ 3 ∷ 5 ∷ 1 ∷ 7 ∷ 2 ∷ []) i

pub two_of_each : channel_rows seven_words (codeword small (5 ∷ [])) 2 2 ≡ 62 ∷ 12 ∷ 18 ∷ []
unfolding combination value_from frobenius field_product product product_below remainder remainder_below
two_of_each = refl

pub two_erased : erased small (62 ∷ 12 ∷ 18 ∷ []) (5 ∷ []) ≡ 2
unfolding innovative_after in_span value_from frobenius field_product product product_below remainder remainder_below
two_erased = refl

pub two_injected : injected small (62 ∷ 12 ∷ 18 ∷ []) (5 ∷ []) ≡ 2
unfolding innovative_after in_span value_from frobenius field_product product product_below remainder remainder_below
two_injected = refl
