-- What a sender sends of a file.
use Rattle.std.specs.Prelude.{ℕ, ◌*◌, List, [], ◌∷◌, ◌++◌, length, map}
use Rattle.std.specs.List.{range_with_len, flat_map}
use Rattle.std.specs.Int.{div_ceil}
use Rattle.std.specs.Simd.{first_chunks}
use Rattle.kk_rows.specs.Combination.{combination}
use Rattle.kk_code.specs.Codeword.{codeword}
use Rattle.kk_code.specs.Ticket.{TicketFields, generations}
use Rattle.kk_assemble.specs.FileBits.{cut}
use Rattle.kk_frame.specs.Frame.{FrameValue, Vector, End, frame_text}

-- the rows of generation g of a file: the codeword of its message
abbrev pub codeword_of : TicketFields → List ℕ → ℕ → List ℕ
codeword_of t file g = codeword t.code (cut t.code file g)

-- rows, and after them a combination of them by each of n words, the first of which is word number `first`
abbrev pub with_combinations : (ℕ → ℕ) → List ℕ → ℕ → ℕ → List ℕ
with_combinations word rows first n = rows ++ map (λ i. combination rows (word i)) (range_with_len first n)

-- the rows that are sent of generation g: those of its codeword, and `extra` combinations by the words that come next
abbrev pub sent_rows : TicketFields → List ℕ → ℕ → (ℕ → ℕ) → ℕ → List ℕ
sent_rows t file extra word g = with_combinations word (codeword_of t file g) (g * extra) extra

-- the data frames of generation g with these rows
abbrev pub vectors : ℕ → List ℕ → List FrameValue
vectors g rows = map (Vector g) rows

-- the data frames of the first n generations, in order, where each has these rows
abbrev pub data_frames : (ℕ → List ℕ) → ℕ → List FrameValue
data_frames rows n = flat_map (λ g. vectors g (rows g)) (range_with_len 0 n)

-- frames one after another
abbrev pub text_of : TicketFields → List FrameValue → List ℕ
text_of t frames = flat_map (frame_text t) frames

-- the frames of a capture: the rows of all codewords, and END
abbrev pub capture_frames : TicketFields → List ℕ → List FrameValue
capture_frames t file = data_frames (codeword_of t file) (generations t) ++ End ∷ []

-- the capture of a file
unfoldable pub packed : TicketFields → List ℕ → List ℕ
packed t file = text_of t (capture_frames t file)

-- the frames in datagrams of so many, in order, the last of which may have fewer
unfoldable pub datagrams_of : TicketFields → ℕ → List FrameValue → List (List ℕ)
datagrams_of t frames_per_datagram frames = map (text_of t) (first_chunks frames_per_datagram (div_ceil (length frames) frames_per_datagram) frames)

-- the sender's list: the rows of all generations in datagrams of so many frames, and END in one of its own
abbrev pub sent_datagrams : TicketFields → List ℕ → ℕ → ℕ → (ℕ → ℕ) → List (List ℕ)
sent_datagrams t file extra frames_per_datagram word =
    datagrams_of t frames_per_datagram (data_frames (sent_rows t file extra word) (generations t)) ++ frame_text t End ∷ []
