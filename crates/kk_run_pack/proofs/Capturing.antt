-- The text of a capture, frame by frame and generation by generation.
use Rattle.std.proofs.Common.{◌≡◌, ℕ, ◌+◌, ◌<◌, List, [], ◌∷◌, ◌++◌, length, take, drop, get_or, sym, ap, ◌∙◌, arith, append_assoc}
use Rattle.std.proofs.lemmas.List.{append-nil}
use Rattle.std.proofs.lemmas.List.Concat.{flat_map-append}
use Rattle.kk_rows.specs.Rows.{numbers}
use Rattle.kk_rows.specs.declared.rows.Row.{Row}
use Rattle.kk_code.specs.Codeword.{Parameters, codeword}
use Rattle.kk_code.specs.Ticket.{TicketFields, generations}
use Rattle.kk_assemble.specs.FileBits.{cut}
use Rattle.kk_frame.specs.Frame.{FrameValue, Vector, End, frame_text}
use Rattle.kk_sender.specs.SentFrames.{codeword_of, vectors, data_frames, text_of, packed}
use Rattle.kk_sender.proofs.Frames.{vectors-more, vectors-parts, data_frames-more, data_frames-parts}

text-append : (t : TicketFields) (a b : List FrameValue) → text_of t (a ++ b) ≡ text_of t a ++ text_of t b
text-append t a b = flat_map-append (frame_text t) a b

text-one : (t : TicketFields) (frame : FrameValue) → text_of t (frame ∷ []) ≡ frame_text t frame
text-one t frame = append-nil (frame_text t frame)

-- ---- the rows of a generation

-- the first i + 1 rows
pub rows_text-more : (t : TicketFields) (g : ℕ) (rows : List Row) (i : ℕ) (d : Row) → i < length rows
    → text_of t (vectors g (take (i + 1) (numbers rows))) ≡ text_of t (vectors g (take i (numbers rows))) ++ frame_text t (Vector g (get_or rows i d).0)
rows_text-more t g rows i d within =
    let front = vectors g (take i (numbers rows)) in
    let row = Vector g (get_or rows i d).0 in
    ap (text_of t) (vectors-more g rows i d within) ∙ text-append t front (row ∷ []) ∙ ap (λ l. text_of t front ++ l) (text-one t row)

-- the first i + 1 rows, and the others
pub rows_text-cut : (t : TicketFields) (g : ℕ) (rows : List Row) (i : ℕ) (d : Row) → i < length rows
    → text_of t (vectors g (numbers rows)) ≡ (text_of t (vectors g (take i (numbers rows))) ++ frame_text t (Vector g (get_or rows i d).0)) ++ text_of t (vectors g (drop (i + 1) (numbers rows)))
rows_text-cut t g rows i d within =
    let others = vectors g (drop (i + 1) (numbers rows)) in
    ap (text_of t) (vectors-parts g (numbers rows) (i + 1))
    ∙ text-append t (vectors g (take (i + 1) (numbers rows))) others
    ∙ ap (λ l. l ++ text_of t others) (rows_text-more t g rows i d within)

-- ---- the generations

-- the rows of a generation as they are computed
pub rows_are : (t : TicketFields) (file : List ℕ) (g : ℕ) (code : Parameters) (message rows : List ℕ)
    → code ≡ t.code → message ≡ cut t.code file g → rows ≡ codeword code message → rows ≡ codeword_of t file g
rows_are t file g code message rows of cut_is encoded = encoded ∙ ap (λ p. codeword p message) of ∙ ap (codeword t.code) cut_is

-- the text of the first n generations
abbrev pub text_to : TicketFields → List ℕ → ℕ → List ℕ
text_to t file n = text_of t (data_frames (codeword_of t file) n)

pub text_to-more : (t : TicketFields) (file : List ℕ) (g : ℕ) (rows : List ℕ) → rows ≡ codeword_of t file g → text_to t file (g + 1) ≡ text_to t file g ++ text_of t (vectors g rows)
text_to-more t file g rows are =
    ap (text_of t) (data_frames-more (codeword_of t file) g)
    ∙ text-append t (data_frames (codeword_of t file) g) (vectors g (codeword_of t file g))
    ∙ ap (λ l. text_to t file g ++ text_of t (vectors g l)) (sym are)

-- all of them, and END
pub packed-all : (t : TicketFields) (file : List ℕ) → packed t file ≡ text_to t file (generations t) ++ frame_text t End
unfolding packed
packed-all t file = text-append t (data_frames (codeword_of t file) (generations t)) (End ∷ []) ∙ ap (λ l. text_to t file (generations t) ++ l) (text-one t End)

-- the first g + 1, and what comes after them
pub packed-cut : (t : TicketFields) (file : List ℕ) (g : ℕ) (rows : List ℕ) → g < generations t → rows ≡ codeword_of t file g
    → (others : List ℕ) × (packed t file ≡ (text_to t file g ++ text_of t (vectors g rows)) ++ others)
packed-cut t file g rows within are =
    let parts = data_frames-parts (codeword_of t file) (g + 1) (generations t) (omega (arith, within)) in
    let front = text_to t file (g + 1) in (
      text_of t parts.0 ++ frame_text t End,
      packed-all t file
          ∙ ap (λ l. text_of t l ++ frame_text t End) parts.1
          ∙ ap (λ l. l ++ frame_text t End) (text-append t (data_frames (codeword_of t file) (g + 1)) parts.0)
          ∙ append_assoc front (text_of t parts.0) (frame_text t End)
          ∙ ap (λ l. l ++ (text_of t parts.0 ++ frame_text t End)) (text_to-more t file g rows are),
    )
