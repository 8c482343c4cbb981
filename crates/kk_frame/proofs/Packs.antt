-- A capture of frames one after another, of which only the last is END: what is read of it.
use Rattle.std.proofs.Common.{◌≡◌, ℕ, ◌+◌, ◌*◌, ◌<◌, ◌≤◌, true, false, cond, Bool, List, [], ◌∷◌, ◌++◌, length, map, All, Some, None, Ok, refl, ap, sym, subst, ◌∙◌, arith, append_assoc, length-append, lit<}
use Rattle.std.specs.Prelude.{◌==◌, ◌/◌, ◌%◌, ◌&&◌, nat_lt, nat_le, is_some, unwrap_or, flat_map}
use Rattle.std.specs.Simd.{first_chunks}
use Rattle.std.proofs.lemmas.Bool.Decides.{nat_tests}
use Rattle.std.proofs.lemmas.List.{append-nil, map-append, length-map, take_all}
use Rattle.std.proofs.lemmas.List.Elements.{All-nil, All-cons, All-head, All-tail, All-append, All-map}
use Rattle.kk_outside.specs.declared.event.Event.{Event}
use Rattle.kk_outside.specs.declared.event.Event.TheVariants.{Datagram}
use Rattle.kk_code.specs.Ticket.{TicketFields}
use Rattle.kk_code.specs.TicketText.{IsTicket}
use Rattle.kk_frame.specs.declared.datagram.TheConstants.{MAX_DATAGRAM_FRAMES}
use Rattle.kk_frame.specs.declared.frame.TheConstants.{FRAME_BYTES}
use Rattle.kk_frame.specs.declared.gate_count.Ended.TheVariants as ended
use Rattle.kk_frame.specs.declared.limits.Limits.{Limits}
use Rattle.kk_frame.specs.Capture.{capture_events}
use Rattle.kk_frame.specs.Datagram.{Reading, has_datagram_length, has_end, pieces, up_to_end, readings, data_frames}
use Rattle.kk_frame.specs.Events.{datagrams, all_readings, end_with, stop, taken, counts}
use Rattle.kk_frame.specs.Frame.{FrameValue, Vector, End, IsFrame, frame_text, frame_read}
use Rattle.kk_frame.proofs.Captures.{capture-none, capture-one, capture-append}
use Rattle.kk_frame.proofs.Readings.{data_frames-append, data_frames-end}
use Rattle.kk_frame.proofs.Stops.{shortest_prefix-nil, shortest_prefix-push, end_with-nil, end_with-datagram}
use Rattle.kk_frame.proofs.Texts.{frame_from_text}

-- data frames as frames, and as events
abbrev pub vector : ℕ × ℕ → FrameValue
vector f = Vector f.0 f.1

abbrev pub event : TicketFields → FrameValue → Event
event t frame = Datagram (frame_text t frame)

pub length-frame_text : (t : TicketFields) (frame : FrameValue) → length (frame_text t frame) ≡ FRAME_BYTES
unfolding frame_text
length-frame_text t (Vector g r) = refl
length-frame_text t End = refl

-- ---- one frame as a datagram

one_piece : (bytes : List ℕ) → length bytes ≡ FRAME_BYTES → (has_datagram_length FRAME_BYTES bytes ≡ true) × (pieces FRAME_BYTES bytes ≡ bytes ∷ [])
one_piece bytes len = (
  ap (λ (n : ℕ). nat_lt 0 n && nat_le n (MAX_DATAGRAM_FRAMES * FRAME_BYTES) && (n % FRAME_BYTES == 0)) len,
  ap (λ (n : ℕ). first_chunks FRAME_BYTES (n / FRAME_BYTES) bytes) len ∙ ap (λ (l : List ℕ). l ∷ []) (take_all FRAME_BYTES bytes (omega (arith, len))),
)

up_to_end-one : (frame : FrameValue) → up_to_end (Ok frame ∷ []) ≡ Ok frame ∷ []
unfolding up_to_end
up_to_end-one (Vector g r) = refl
up_to_end-one End = refl

pub readings-one : (t : TicketFields) (frame : FrameValue) → IsTicket t → IsFrame t frame → readings FRAME_BYTES t (frame_text t frame) ≡ Ok frame ∷ []
unfolding readings
readings-one t frame ticket is =
    let text = frame_text t frame in
    let one = one_piece text (length-frame_text t frame) in
    let read : frame_read t text ≡ Ok frame = frame_from_text t text frame ticket (is, refl) in
    ap (λ (b : Bool). cond b (up_to_end (map (frame_read t) (pieces FRAME_BYTES text))) []) one.0
    ∙ ap (λ (ps : List (List ℕ)). up_to_end (map (frame_read t) ps)) one.1
    ∙ ap (λ (r : Reading). up_to_end (r ∷ [])) read
    ∙ up_to_end-one frame

-- ---- frames one after another

-- the events of a capture of frames
pub capture-frames : (t : TicketFields) (frames : List FrameValue) → capture_events FRAME_BYTES (flat_map (frame_text t) frames) ≡ map (event t) frames
capture-frames t [] = capture-none FRAME_BYTES (lit< tt)
capture-frames t (frame ∷ frames) =
    let text = frame_text t frame in
    let len = length-frame_text t frame in
    capture-append FRAME_BYTES 1 text (flat_map (frame_text t) frames) (lit< tt) len
    ∙ ap (λ (l : List Event). l ++ capture_events FRAME_BYTES (flat_map (frame_text t) frames)) (capture-one FRAME_BYTES text (omega (arith, len)) (omega (arith, len)))
    ∙ ap (λ (l : List Event). event t frame ∷ l) (capture-frames t frames)

datagrams-frames : (t : TicketFields) (frames : List FrameValue) → datagrams (map (event t) frames) ≡ map (frame_text t) frames
datagrams-frames t [] = refl
datagrams-frames t (frame ∷ frames) = ap (λ (l : List (List ℕ)). frame_text t frame ∷ l) (datagrams-frames t frames)

texts-read : (t : TicketFields) (frames : List FrameValue) → IsTicket t → All (IsFrame t) frames → flat_map (readings FRAME_BYTES t) (map (frame_text t) frames) ≡ map Ok frames
texts-read t [] ticket are = refl
texts-read t (frame ∷ frames) ticket are =
    ap (λ (l : List Reading). l ++ flat_map (readings FRAME_BYTES t) (map (frame_text t) frames)) (readings-one t frame ticket (All-head (IsFrame t) frame frames are))
    ∙ ap (λ (l : List Reading). Ok frame ∷ l) (texts-read t frames ticket (All-tail (IsFrame t) frame frames are))

-- all that is read of them
pub all_readings-frames : (t : TicketFields) (frames : List FrameValue) → IsTicket t → All (IsFrame t) frames → all_readings FRAME_BYTES t (map (event t) frames) ≡ map Ok frames
all_readings-frames t frames ticket are = ap (λ (ds : List (List ℕ)). flat_map (readings FRAME_BYTES t) ds) (datagrams-frames t frames) ∙ texts-read t frames ticket are

data_frames-vectors : (vectors : List (ℕ × ℕ)) → data_frames (map Ok (map vector vectors)) ≡ vectors
unfolding data_frames
data_frames-vectors [] = refl
data_frames-vectors (v ∷ vectors) = ap (λ (l : List (ℕ × ℕ)). v ∷ l) (data_frames-vectors vectors)

-- ---- where the gate stops

-- the data frames as events
abbrev pub events_of : TicketFields → List (ℕ × ℕ) → List Event
events_of t vectors = map (event t) (map vector vectors)

length-events_of : (t : TicketFields) (vectors : List (ℕ × ℕ)) → length (datagrams (events_of t vectors)) ≡ length vectors
length-events_of t vectors = ap length (datagrams-frames t (map vector vectors)) ∙ length-map (map vector vectors) (frame_text t) ∙ length-map vectors vector

events_of-push : (t : TicketFields) (before : List (ℕ × ℕ)) (v : ℕ × ℕ) → events_of t (before ++ v ∷ []) ≡ events_of t before ++ event t (vector v) ∷ []
events_of-push t before v = ap (map (event t)) (map-append vector before (v ∷ [])) ∙ map-append (event t) (map vector before) (vector v ∷ [])

-- the gate hasn't ended with these data frames
record Runs (t : TicketFields) (limits : Limits) (events : List Event) : Type 0 where
  all : stop FRAME_BYTES t limits events ≡ events
  none : end_with FRAME_BYTES t limits events ≡ None

runs-push : (t : TicketFields) (limits : Limits) (before : List (ℕ × ℕ)) (v : ℕ × ℕ) → IsTicket t → IsFrame t (vector v) → 1 ≤ limits.idle → length before + 1 < limits.most → Runs t limits (events_of t before) → Runs t limits (events_of t (before ++ v ∷ []))
runs-push t limits before v ticket is idle few runs =
    let text = frame_text t (vector v) in
    let push = events_of-push t before v in
    let no_end : has_end (readings FRAME_BYTES t text) ≡ false = ap has_end (readings-one t (vector v) ticket is) in
    let not_last : (length before + 1 == limits.most) ≡ false = grind (arith, nat_tests) in
    record {
      all =
          ap (stop FRAME_BYTES t limits) push
          ∙ shortest_prefix-push (λ prefix. is_some (end_with FRAME_BYTES t limits prefix)) (events_of t before) (event t (vector v)) runs.all (ap is_some runs.none)
          ∙ sym push;
      none =
          ap (end_with FRAME_BYTES t limits) push
          ∙ end_with-datagram FRAME_BYTES t limits (events_of t before) text (length before) (length-events_of t before) idle
          ∙ rw (no_end, not_last) refl;
    }

runs-more : (t : TicketFields) (limits : Limits) (before vectors : List (ℕ × ℕ)) → IsTicket t → All (λ v. IsFrame t (vector v)) vectors → 1 ≤ limits.idle → length before + length vectors < limits.most → Runs t limits (events_of t before) → Runs t limits (events_of t (before ++ vectors))
runs-more t limits before [] ticket are idle few runs = subst (λ l. Runs t limits (events_of t l)) (sym (append-nil before)) runs
runs-more t limits before (v ∷ vectors) ticket are idle few runs =
    let P : ℕ × ℕ → Type 0 = λ w. IsFrame t (vector w) in
    subst (λ l. Runs t limits (events_of t l)) (append_assoc before (v ∷ []) vectors)
    (runs-more t limits (before ++ v ∷ []) vectors ticket (All-tail P v vectors are) idle (omega (arith, few, length-append before (v ∷ [])))
    (runs-push t limits before v ticket (All-head P v vectors are) idle (omega (arith, few)) runs))

-- What is read of a capture of these data frames and END: all of it.
pub record IsReadWhole (t : TicketFields) (limits : Limits) (vectors : List (ℕ × ℕ)) (events : List Event) : Type 0 where
  pub all : stop FRAME_BYTES t limits events ≡ events
  pub taken_are : taken FRAME_BYTES t limits events ≡ vectors
  pub ended : (counts FRAME_BYTES t limits events).ended ≡ Some ended.End

pub packed_is_read : (t : TicketFields) (limits : Limits) (vectors : List (ℕ × ℕ)) → IsTicket t → All (λ v. IsFrame t (vector v)) vectors → 1 ≤ limits.idle → length vectors < limits.most → IsReadWhole t limits vectors (capture_events FRAME_BYTES (flat_map (frame_text t) (map vector vectors ++ End ∷ [])))
packed_is_read t limits vectors ticket are idle few =
    let test : List Event → Bool = λ prefix. is_some (end_with FRAME_BYTES t limits prefix) in
    let events = events_of t vectors ++ event t End ∷ [] in
    let is : capture_events FRAME_BYTES (flat_map (frame_text t) (map vector vectors ++ End ∷ [])) ≡ events = capture-frames t (map vector vectors ++ End ∷ []) ∙ map-append (event t) (map vector vectors) (End ∷ []) in
    let start : Runs t limits [] = record { all = shortest_prefix-nil test; none = end_with-nil FRAME_BYTES t limits idle (omega (arith, few)) } in
    let runs = runs-more t limits [] vectors ticket are idle (omega (arith, few)) start in
    let all : stop FRAME_BYTES t limits events ≡ events = shortest_prefix-push test (events_of t vectors) (event t End) runs.all (ap is_some runs.none) in
    let read_end : has_end (readings FRAME_BYTES t (frame_text t End)) ≡ true = ap has_end (readings-one t End ticket tt) in
    let ends : end_with FRAME_BYTES t limits events ≡ Some ended.End =
    end_with-datagram FRAME_BYTES t limits (events_of t vectors) (frame_text t End) (length vectors) (length-events_of t vectors) idle ∙ rw read_end refl in
    let whole = map-append (event t) (map vector vectors) (End ∷ []) in
    let frames_are : All (IsFrame t) (map vector vectors ++ End ∷ []) = All-append (IsFrame t) (map vector vectors) (End ∷ []) (All-map (IsFrame t) vector vectors are) (All-cons (IsFrame t) End [] tt (All-nil (IsFrame t))) in
    let readings_are : all_readings FRAME_BYTES t events ≡ map Ok (map vector vectors) ++ Ok End ∷ [] =
    ap (all_readings FRAME_BYTES t) (sym whole) ∙ all_readings-frames t (map vector vectors ++ End ∷ []) ticket frames_are ∙ map-append Ok (map vector vectors) (End ∷ []) in
    let taken_are : taken FRAME_BYTES t limits events ≡ vectors =
    ap (λ prefix. data_frames (all_readings FRAME_BYTES t prefix)) all
    ∙ ap data_frames readings_are
    ∙ data_frames-append (map Ok (map vector vectors)) (Ok End ∷ [])
    ∙ ap (λ (l : List (ℕ × ℕ)). l ++ data_frames (Ok End ∷ [])) (data_frames-vectors vectors)
    ∙ ap (λ (l : List (ℕ × ℕ)). vectors ++ l) data_frames-end
    ∙ append-nil vectors in
    subst (IsReadWhole t limits vectors) (sym is) (record {
      all = all;
      taken_are = taken_are;
      ended = ap (λ prefix. Some (unwrap_or (end_with FRAME_BYTES t limits prefix) ended.Over)) all ∙ ap (λ o. Some (unwrap_or o ended.Over)) ends;
    })
