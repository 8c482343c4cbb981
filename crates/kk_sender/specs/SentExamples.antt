-- What is sent of the one byte A0 over GF(8), with three generations of three rows.
use Rattle.std.specs.Prelude.{◌≡◌, refl, ℕ, [], ◌∷◌, ◌++◌, Some, true, false, if◌then◌else◌, ◌==◌}
use Rattle.kk_field.specs.Polynomial.{product, product_below, remainder, remainder_below}
use Rattle.kk_field.specs.Field.{field_product, frobenius}
use Rattle.kk_linpoly.specs.LinPoly.{value_from}
use Rattle.kk_rows.specs.Combination.{combination}
use Rattle.kk_code.specs.Ticket.{one_byte}
use Rattle.kk_assemble.specs.FileBits.{number_from}
use Rattle.kk_frame.specs.Frame.{frame_text}
use Rattle.kk_frame.specs.FrameExamples.{data_frame, end_frame, capture}
use Rattle.kk_sender.specs.SentFrames.{packed, sent_datagrams, datagrams_of}
use Rattle.kk_sender.specs.LengthRule.{wrong_length}

pub capture_of_one_byte : packed one_byte (160 ∷ []) ≡ capture
unfolding packed frame_text number_from value_from frobenius field_product product product_below remainder remainder_below
capture_of_one_byte = refl

-- the words 3, 0 and 7
abbrev pub three_words : ℕ → ℕ
three_words i = if i == 0 then 3 else (if i == 1 then 0 else 7)

-- a combination of each generation, all in one datagram
pub one_combination_each :
    sent_datagrams one_byte (160 ∷ []) 1 32 three_words
    ≡ (data_frame 0 13 ++ data_frame 0 17 ++ data_frame 0 34 ++ data_frame 0 28
    ++ data_frame 1 8 ++ data_frame 1 16 ++ data_frame 1 32 ++ data_frame 1 0
    ++ data_frame 2 8 ++ data_frame 2 16 ++ data_frame 2 32 ++ data_frame 2 56) ∷ end_frame ∷ []
unfolding datagrams_of combination frame_text number_from value_from frobenius field_product product product_below remainder remainder_below
one_combination_each = refl

-- datagrams of five frames, across generations
pub across_generations :
    sent_datagrams one_byte (160 ∷ []) 0 5 three_words
    ≡ (data_frame 0 13 ++ data_frame 0 17 ++ data_frame 0 34 ++ data_frame 1 8 ++ data_frame 1 16)
    ∷ (data_frame 1 32 ++ data_frame 2 8 ++ data_frame 2 16 ++ data_frame 2 32) ∷ end_frame ∷ []
unfolding datagrams_of combination frame_text number_from value_from frobenius field_product product product_below remainder remainder_below
across_generations = refl

pub no_bytes : wrong_length 1 0 ≡ Some (0, false)
no_bytes = refl

pub a_byte_more : wrong_length 1 2 ≡ Some (2, true)
a_byte_more = refl
