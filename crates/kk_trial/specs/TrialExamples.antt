-- The file of one byte over GF(8), made by a word, in three generations, of each of which one dimension is erased and into each
-- of which one is injected; and its nine frames, dealt over two gates.
use Rattle.std.specs.Prelude.{◌≡◌, refl, ℕ, [], ◌∷◌, slice_index}
use Rattle.kk_field.specs.Polynomial.{product, product_below, remainder, remainder_below}
use Rattle.kk_field.specs.Field.{field_product, frobenius}
use Rattle.kk_linpoly.specs.LinPoly.{value_from}
use Rattle.kk_rows.specs.Combination.{combination}
use Rattle.kk_code.specs.Ticket.{one_byte}
use Rattle.kk_assemble.specs.FileBits.{number_from}
use Rattle.kk_outside.specs.GateState.{unasked}
use Rattle.kk_outside.specs.declared.event.Event.TheVariants.{Datagram}
use Rattle.kk_frame.specs.Frame.{frame_text}
use Rattle.kk_frame.specs.FrameExamples.{data_frame}
use Rattle.kk_trial.specs.declared.operator_channel.OperatorChannel.{OperatorChannel}
use Rattle.kk_trial.specs.Trial.{made_file, trial_frames, dealt_from, dealt, trial_gates}

-- ---- files

-- the first word makes eight bytes; of the second the first byte alone is within the length
pub nine_bytes : made_file 9 (slice_index (0x0102030405060708 ∷ 0xA1A2A3A4A5A6A7A8 ∷ [])) ≡ 1 ∷ 2 ∷ 3 ∷ 4 ∷ 5 ∷ 6 ∷ 7 ∷ 8 ∷ 161 ∷ []
nine_bytes = refl

pub three_bytes : made_file 3 (slice_index (0x0102030405060708 ∷ [])) ≡ 1 ∷ 2 ∷ 3 ∷ []
three_bytes = refl

-- ---- dealing

pub even_of_five : dealt 2 0 ((0, 7) ∷ (0, 8) ∷ (0, 9) ∷ (1, 5) ∷ (1, 6) ∷ []) ≡ (0, 7) ∷ (0, 9) ∷ (1, 6) ∷ []
unfolding dealt_from
even_of_five = refl

pub odd_of_five : dealt 2 1 ((0, 7) ∷ (0, 8) ∷ (0, 9) ∷ (1, 5) ∷ (1, 6) ∷ []) ≡ (0, 8) ∷ (1, 5) ∷ []
unfolding dealt_from
odd_of_five = refl

-- ---- a trial

-- the channel that erases one dimension and injects one
abbrev pub one_of_each : OperatorChannel
one_of_each = record { erase = 1; inject = 1 }

-- the word of the file, five words for each of the generations 0 and 1, and then zeros
abbrev pub eleven_words : ℕ → ℕ
eleven_words i = slice_index (0xA0FFFFFFFFFFFFFF ∷ 0 ∷ 1 ∷ 3 ∷ 0 ∷ 1 ∷ 0 ∷ 1 ∷ 3 ∷ 0 ∷ 1 ∷ []) i

pub the_byte : made_file 1 eleven_words ≡ 160 ∷ []
the_byte = refl

-- its first message is 5, and the others are 0
pub nine_frames :
    trial_frames one_byte one_of_each eleven_words
    ≡ (0, 28) ∷ (0, 62) ∷ (0, 12) ∷ (1, 24) ∷ (1, 56) ∷ (1, 9) ∷ (2, 16) ∷ (2, 32) ∷ (2, 1) ∷ []
unfolding number_from combination value_from frobenius field_product product product_below remainder remainder_below
nine_frames = refl

pub two_gates :
    trial_gates one_byte one_of_each 2 eleven_words
    ≡ unasked (Datagram (data_frame 0 28) ∷ Datagram (data_frame 0 12) ∷ Datagram (data_frame 1 56) ∷ Datagram (data_frame 2 16) ∷ Datagram (data_frame 2 1) ∷ [])
    ∷ unasked (Datagram (data_frame 0 62) ∷ Datagram (data_frame 1 24) ∷ Datagram (data_frame 1 9) ∷ Datagram (data_frame 2 32) ∷ []) ∷ []
unfolding dealt_from frame_text number_from combination value_from frobenius field_product product product_below remainder remainder_below
two_gates = refl
