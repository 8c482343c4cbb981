-- The capture of the one byte A0 over GF(8), with three generations of three rows.
use Rattle.std.specs.Prelude.{◌≡◌, refl, Ok, Err, [], ◌∷◌, ◌++◌, List, ℕ}
use Rattle.kk_code.specs.Ticket.{one_byte}
use Rattle.kk_frame.specs.declared.fault.FrameFault.TheVariants.{Generation, Row}
use Rattle.kk_frame.specs.Frame.{Vector, End, frame_text, frame_fault, frame_read}

-- a frame of generation 0 with this last byte
abbrev pub data_frame : ℕ → ℕ → List ℕ
data_frame generation row =
    75 ∷ 75 ∷ 1 ∷ 0 ∷ 0 ∷ 0 ∷ 0 ∷ 1 ∷ 0 ∷ 0 ∷ 0 ∷ generation ∷ 0 ∷ 0 ∷ 0 ∷ 0 ∷ 0 ∷ 0 ∷ 0 ∷ row ∷ []

abbrev pub end_frame : List ℕ
end_frame = 75 ∷ 75 ∷ 1 ∷ 1 ∷ 0 ∷ 0 ∷ 0 ∷ 1 ∷ 0 ∷ 0 ∷ 0 ∷ 0 ∷ 0 ∷ 0 ∷ 0 ∷ 0 ∷ 0 ∷ 0 ∷ 0 ∷ 0 ∷ []

abbrev pub capture : List ℕ
capture =
    data_frame 0 13 ++ data_frame 0 17 ++ data_frame 0 34 ++ data_frame 1 8 ++ data_frame 1 16 ++ data_frame 1 32
    ++ data_frame 2 8 ++ data_frame 2 16 ++ data_frame 2 32 ++ end_frame

pub text_of_a_row : frame_text one_byte (Vector 0 13) ≡ data_frame 0 13
unfolding frame_text
text_of_a_row = refl

pub text_of_the_end : frame_text one_byte End ≡ end_frame
unfolding frame_text
text_of_the_end = refl

pub a_row_is_read : frame_read one_byte (data_frame 2 32) ≡ Ok (Vector 2 32)
unfolding frame_read frame_fault
a_row_is_read = refl

pub row_too_large : frame_read one_byte (data_frame 0 64) ≡ Err Row
unfolding frame_read frame_fault
row_too_large = refl

pub no_such_generation : frame_read one_byte (data_frame 3 0) ≡ Err Generation
unfolding frame_read frame_fault
no_such_generation = refl
