-- A frame of 20 bytes. Numbers are big-endian.
use Rattle.std.specs.Prelude.{ℕ, not, ◌^◌, ◌<◌, ◌==◌, ◌&&◌, ◌||◌, nat_lt, if◌then◌else◌, Option, Some, None, Result, Ok, Err, List, ◌∷◌, ◌++◌, slice_index, slice_range, replicate}
use Rattle.std.specs.Int.{w32, w64, to_be_bytes, from_be_bytes}
use Rattle.kk_code.specs.Codeword.{width}
use Rattle.kk_code.specs.Ticket.{TicketFields, generations}
use Rattle.kk_frame.specs.declared.fault.FrameFault.{FrameFault}
use Rattle.kk_frame.specs.declared.fault.FrameFault.TheVariants.{Magic, Version, Kind, Session, Generation, Row, EndRow}

-- a row of a generation, or the end of the transmission
pub data FrameValue : Type 0 where
  Vector : ℕ → ℕ → FrameValue
  End : FrameValue

-- a frame that the ticket has
abbrev pub IsFrame : TicketFields → FrameValue → Type 0
IsFrame t (Vector generation row) = (generation < generations t) × (row < 2 ^ width t.code)
IsFrame t End = Unit {0}

-- "KK", the version 1, the kind (0 for data, 1 for END), and the session
abbrev pub header : TicketFields → ℕ → List ℕ
header t kind = 75 ∷ 75 ∷ 1 ∷ kind ∷ to_be_bytes w32 t.session

-- the 20 bytes of a frame
unfoldable pub frame_text : TicketFields → FrameValue → List ℕ
frame_text t (Vector generation row) = header t 0 ++ to_be_bytes w32 generation ++ to_be_bytes w64 row
frame_text t End = header t 1 ++ replicate 12 0

-- the kind in the bytes of a frame
abbrev pub kind_in : List ℕ → ℕ
kind_in bytes = slice_index bytes 3

-- the session in the bytes of a frame
abbrev pub session_in : List ℕ → ℕ
session_in bytes = from_be_bytes w32 (slice_range bytes 4 8)

-- the generation in the bytes of a frame
abbrev pub generation_in : List ℕ → ℕ
generation_in bytes = from_be_bytes w32 (slice_range bytes 8 12)

-- the row in the bytes of a frame, as a number
abbrev pub row_in : List ℕ → ℕ
row_in bytes = from_be_bytes w64 (slice_range bytes 12 20)

-- the first rule that the bytes of a data frame break after the session
abbrev pub data_fault : TicketFields → List ℕ → Option FrameFault
data_fault t bytes =
    if nat_lt (generation_in bytes) (generations t) then (if nat_lt (row_in bytes) (2 ^ width t.code) then None else Some Row)
    else Some Generation

-- the rule that the bytes of END break after the session: generation and row are 0
abbrev pub end_fault : List ℕ → Option FrameFault
end_fault bytes = if (generation_in bytes == 0) && (row_in bytes == 0) then None else Some EndRow

-- the first rule of a frame that 20 bytes break
unfoldable pub frame_fault : TicketFields → List ℕ → Option FrameFault
frame_fault t bytes =
    if not ((slice_index bytes 0 == 75) && (slice_index bytes 1 == 75)) then Some Magic
    else (if not (slice_index bytes 2 == 1) then Some Version
    else (if not ((kind_in bytes == 0) || (kind_in bytes == 1)) then Some Kind
    else (if not (session_in bytes == t.session) then Some Session
    else (if kind_in bytes == 0 then data_fault t bytes else end_fault bytes))))

-- the frame in 20 bytes that break no rule
abbrev pub frame_in : List ℕ → FrameValue
frame_in bytes = if kind_in bytes == 0 then Vector (generation_in bytes) (row_in bytes) else End

-- the frame that 20 bytes are, or the first rule that they break
unfoldable pub frame_read : TicketFields → List ℕ → Result FrameValue FrameFault
frame_read t bytes = elim (frame_fault t bytes) [ None ↦ Ok (frame_in bytes) | Some fault ↦ Err fault ]
