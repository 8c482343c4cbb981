-- The capture of a file, and what it unpacks to.
use Rattle.std.proofs.Common.{◌≡◌, ℕ, zero, suc, ◌+◌, ◌-◌, ◌<◌, ◌≤◌, List, [], ◌∷◌, ◌++◌, length, map, All, Some, refl, ap, sym, ◌∙◌, arith, length-append, lit<}
use Rattle.std.specs.Prelude.{flat_map, sum_by}
use Rattle.std.specs.List.{range_with_len}
use Rattle.std.proofs.lemmas.List.{map-append, length-map}
use Rattle.kk_rows.specs.Span.{innovative}
use Rattle.kk_rows.specs.Distance.{distance}
use Rattle.kk_rows.proofs.Dimensions.{in_span_innovative}
use Rattle.kk_rows.proofs.Spans.{HaveSameSpan-from_members}
use Rattle.kk_rows.proofs.Distances.{distance_of_same_span}
use Rattle.kk_outside.specs.declared.event.Event.{Event}
use Rattle.kk_code.specs.Codeword.{Parameters, IsCode, codeword}
use Rattle.kk_code.specs.Decoding.{answer}
use Rattle.kk_code.specs.Ticket.{generations}
use Rattle.kk_code.proofs.Enumeration.{answer-of_message}
use Rattle.kk_code.proofs.Values.{codeword_below}
use Rattle.kk_assemble.specs.FileBits.{cut}
use Rattle.kk_assemble.proofs.Cuts.{cut_is_message, file_from_answers}
use Rattle.kk_frame.specs.declared.frame.TheConstants.{FRAME_BYTES}
use Rattle.kk_frame.specs.Events.{datagrams}
use Rattle.kk_frame.specs.Frame.{FrameValue, Vector, End, IsFrame, frame_text}
use Rattle.kk_frame.proofs.Captures.{capture-length}
use Rattle.kk_frame.proofs.Generations.{frames_from, rows_of-frames, All-frames}
use Rattle.kk_frame.proofs.Packs.{vector, packed_is_read}
use Rattle.kk_outcome.specs.Answers.{frozen, file_text}
use Rattle.kk_sender.specs.SentFrames.{codeword_of, capture_frames, packed}
use Rattle.kk_outcome.proofs.Outcomes.{ticket_code}
use Rattle.kk_run_unpack.specs.Laws.{PackedFileUnpacks}
use Rattle.kk_run_unpack.specs.Unpack.{piece_limits, pieces_read, vectors_of, counts_of, unpacked, read_length}

-- the rows of a codeword decode to its message
codeword_decodes : (p : Parameters) (file : List ℕ) (g : ℕ) → IsCode p → answer p (innovative (codeword p (cut p file g))) ≡ Some (cut p file g)
codeword_decodes p file g code =
    let u = cut p file g in
    let same = HaveSameSpan-from_members (codeword p u) (innovative (codeword p u)) (λ x. sym (in_span_innovative (codeword p u) x)) in
    let none = distance_of_same_span (codeword p u) (innovative (codeword p u)) same in
    let near : distance (codeword p u) (innovative (codeword p u)) ≤ p.l - p.k = omega (arith, none) in
    answer-of_message p code (innovative (codeword p u)) u (record { message = cut_is_message p file g; within = near })

-- the data frames of a capture as frames
frames_as_vectors : (rows : ℕ → List ℕ) (a n : ℕ) → flat_map (λ g. map (Vector g) (rows g)) (range_with_len a n) ≡ map vector (frames_from rows a n)
frames_as_vectors rows a zero = refl
frames_as_vectors rows a (suc n) =
    ap (λ (l : List FrameValue). l ++ flat_map (λ g. map (Vector g) (rows g)) (range_with_len (a + 1) n)) (vectors_of_rows a (rows a))
    ∙ ap (λ (l : List FrameValue). map vector (map (λ (r : ℕ). (a, r)) (rows a)) ++ l) (frames_as_vectors rows (a + 1) n)
    ∙ sym (map-append vector (map (λ (r : ℕ). (a, r)) (rows a)) (frames_from rows (a + 1) n))
  where
    vectors_of_rows : (g : ℕ) (rows : List ℕ) → map (Vector g) rows ≡ map vector (map (λ (r : ℕ). (g, r)) rows)
    vectors_of_rows g [] = refl
    vectors_of_rows g (row ∷ rows) = ap (λ (l : List FrameValue). Vector g row ∷ l) (vectors_of_rows g rows)

pub packed_file_unpacks : PackedFileUnpacks
unfolding packed unpacked read_length
packed_file_unpacks t file most ticket len bytes enough =
    let rows = codeword_of t file in
    let n = generations t in
    let vectors = frames_from rows 0 n in
    let same = frames_as_vectors rows 0 n in
    let frames_are : capture_frames t file ≡ map vector vectors ++ End ∷ [] = ap (λ (l : List FrameValue). l ++ End ∷ []) same in
    let text_is : packed t file ≡ flat_map (frame_text t) (map vector vectors ++ End ∷ []) = ap (flat_map (frame_text t)) frames_are in
    let few : length vectors < most = omega (arith, enough, ap length frames_are, length-append (map vector vectors) (End ∷ []), length-map vectors vector) in
    let in_range : All (λ v. IsFrame t (vector v)) vectors = All-frames (λ v. IsFrame t (vector v)) rows 0 n (λ g above below i d within. (omega (arith, below), codeword_below t.code (cut t.code file g) ticket.code i d within)) in
    let read = packed_is_read t (piece_limits most) vectors ticket in_range (omega arith) few in
    let taken_are : vectors_of t most (packed t file) ≡ vectors = ap (vectors_of t most) text_is ∙ read.taken_are in
    let each : (g : ℕ) → g < n → answer t.code (frozen vectors g) ≡ Some (cut t.code file g) =
    λ g below. ap (λ (l : List ℕ). answer t.code (innovative l)) (rows_of-frames rows 0 n g (omega arith) (omega (arith, below))) ∙ codeword_decodes t.code file g (ticket_code t ticket) in
    record {
      file_is = ap (file_text t) taken_are ∙ file_from_answers t file (λ g. answer t.code (frozen vectors g)) ticket.code len bytes each;
      whole =
          ap (λ (l : List ℕ). sum_by length (datagrams (pieces_read t most l))) text_is
          ∙ ap (λ (es : List Event). sum_by length (datagrams es)) read.all
          ∙ capture-length FRAME_BYTES (flat_map (frame_text t) (map vector vectors ++ End ∷ [])) (lit< tt)
          ∙ sym (ap length text_is);
      ended = ap (λ (l : List ℕ). (counts_of t most l).ended) text_is ∙ read.ended;
    }
