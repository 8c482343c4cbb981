-- A datagram: pieces of the length of a frame, one after another. The length of a piece is the parameter `size`.
use Rattle.std.specs.Prelude.{ℕ, ◌*◌, ◌/◌, ◌%◌, Bool, true, false, ◌&&◌, ◌==◌, nat_lt, nat_le, if◌then◌else◌, Result, Ok, Err, List, [], ◌∷◌, length, map}
use Rattle.std.specs.Simd.{first_chunks}
use Rattle.kk_code.specs.Ticket.{TicketFields}
use Rattle.kk_frame.specs.declared.fault.FrameFault.{FrameFault}
use Rattle.kk_frame.specs.declared.datagram.TheConstants.{MAX_DATAGRAM_FRAMES}
use Rattle.kk_frame.specs.Frame.{FrameValue, Vector, End, frame_read}

-- the bytes are 1 to 32 whole pieces
abbrev pub has_datagram_length : ℕ → List ℕ → Bool
has_datagram_length size bytes =
    nat_lt 0 (length bytes) && nat_le (length bytes) (MAX_DATAGRAM_FRAMES * size) && (length bytes % size == 0)

-- the whole pieces that the bytes are cut into
abbrev pub pieces : ℕ → List ℕ → List (List ℕ)
pieces size bytes = first_chunks size (length bytes / size) bytes

-- what a piece is read as: a frame of the ticket, or the first rule that it breaks
abbrev pub Reading : Type 0
Reading = Result FrameValue FrameFault

-- whether END was read of a piece
abbrev pub is_end : Reading → Bool
is_end (Ok (Vector generation row)) = false
is_end (Ok End) = true
is_end (Err fault) = false

-- some piece is read as END
abbrev pub has_end : List Reading → Bool
has_end [] = false
has_end (r ∷ rs) = if is_end r then true else has_end rs

-- up to the first END, and with it
unfoldable pub up_to_end : List Reading → List Reading
up_to_end [] = []
up_to_end (r ∷ rs) = r ∷ (if is_end r then [] else up_to_end rs)

-- What is read of a datagram: its pieces up to the first END, and with it. Of a datagram of a wrong length nothing is read.
unfoldable pub readings : ℕ → TicketFields → List ℕ → List Reading
readings size t bytes = if has_datagram_length size bytes then up_to_end (map (frame_read t) (pieces size bytes)) else []

-- generation and row of each data frame
unfoldable pub data_frames : List Reading → List (ℕ × ℕ)
data_frames [] = []
data_frames (Ok (Vector generation row) ∷ rs) = (generation, row) ∷ data_frames rs
data_frames (Ok End ∷ rs) = data_frames rs
data_frames (Err fault ∷ rs) = data_frames rs
