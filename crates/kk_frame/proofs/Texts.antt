-- A frame and its bytes.
use Rattle.std.proofs.Common.{◌≡◌, ℕ, ◌^◌, ◌<◌, ◌≤◌, List, ◌∷◌, ◌++◌, length, get_or, take, drop, Option, Some, None, Result, Ok, Err, Bool, true, false, cond, eqb, ltb, All, refl, sym, ap, subst, ◌∙◌, inl, inr, arith}
use Rattle.std.specs.Prelude.{not, ◌&&◌, ◌||◌, slice_range}
use Rattle.std.specs.Int.{w32, w64, to_be_bytes}
use Rattle.std.proofs.Math.Nat.{pow-le-pow_right}
use Rattle.std.proofs.lemmas.Bool.{ltb-true, eqb-true, and_parts, or_cases, cases_lt}
use Rattle.std.proofs.lemmas.Bool.Decides.{nat_tests}
use Rattle.std.proofs.lemmas.List.{drop_more, take-append-drop, drop-drop, take_all, length-take, length-drop, get_or_past, append_assoc}
use Rattle.std.proofs.lemmas.List.Elements.{All-take, All-drop}
use Rattle.std.proofs.lemmas.Nat.{be_bytes_4, be_bytes_8, from_be_bytes-to_be_bytes_4, from_be_bytes-to_be_bytes_8}
use Rattle.kk_code.specs.Codeword.{width}
use Rattle.kk_code.specs.Ticket.{TicketFields, generations}
use Rattle.kk_code.specs.TicketText.{IsTicket}
use Rattle.kk_frame.specs.declared.fault.FrameFault.{FrameFault}
use Rattle.kk_frame.specs.declared.fault.FrameFault.TheVariants.{Magic, Version, Kind, Session, Generation, Row, EndRow}
use Rattle.kk_frame.specs.Frame.{FrameValue, Vector, End, IsFrame, header, frame_text, kind_in, session_in, generation_in, row_in, data_fault, end_fault, frame_in, frame_fault, frame_read}
use Rattle.kk_frame.specs.Laws.{AreFrameBytes}

-- a ticket whose numbers fit the parts of a frame
record FitsFrames (t : TicketFields) : Type 0 where
  session : t.session < 2 ^ 32
  generations : generations t ≤ 2 ^ 14
  width : width t.code ≤ 63

ticket_fits : (t : TicketFields) → IsTicket t → FitsFrames t
ticket_fits t ticket = record { session = ticket.session; generations = ticket.few; width = ticket.narrow.wide }

-- the bytes before the numbers, and the session
pub record HasHeader (t : TicketFields) (kind : ℕ) (bytes : List ℕ) : Type 0 where
  pub first : get_or bytes 0 0 ≡ 75
  pub second : get_or bytes 1 0 ≡ 75
  pub version : get_or bytes 2 0 ≡ 1
  pub kind_is : get_or bytes 3 0 ≡ kind
  pub session : session_in bytes ≡ t.session

-- the numbers that stand in the bytes of a frame
abbrev pub HasFields : TicketFields → List ℕ → FrameValue → Type 0
HasFields t bytes (Vector generation row) = HasHeader t 0 bytes × (generation_in bytes ≡ generation) × (row_in bytes ≡ row)
HasFields t bytes End = HasHeader t 1 bytes × (generation_in bytes ≡ 0) × (row_in bytes ≡ 0)

-- ---- from the numbers to the frame

pub read_again : (t : TicketFields) (bytes : List ℕ) (frame : FrameValue) → HasFields t bytes frame → IsFrame t frame → frame_read t bytes ≡ Ok frame
unfolding frame_read frame_fault
read_again t bytes (Vector generation row) has is = grind (arith, nat_tests)
read_again t bytes End has is = grind (arith, nat_tests)

text_fields : (t : TicketFields) (frame : FrameValue) → FitsFrames t → IsFrame t frame → HasFields t (frame_text t frame) frame
unfolding frame_text
text_fields t (Vector generation row) fits is =
    let wide : 2 ^ width t.code ≤ 2 ^ 63 = pow-le-pow_right {n = 2} (omega arith) fits.width in (
      record { first = refl; second = refl; version = refl; kind_is = refl; session = from_be_bytes-to_be_bytes_4 t.session fits.session },
      from_be_bytes-to_be_bytes_4 generation (omega (arith, is.0, fits.generations)),
      from_be_bytes-to_be_bytes_8 row (omega (arith, is.1, wide)),
    )
text_fields t End fits is =
    (record { first = refl; second = refl; version = refl; kind_is = refl; session = from_be_bytes-to_be_bytes_4 t.session fits.session }, refl, refl)

-- ---- from the frame to the numbers

no_fault : {A : Type 0} (fault : Option FrameFault) (x y : A) → elim fault as (λ _. Result A FrameFault) [ None ↦ Ok x | Some f ↦ Err f ] ≡ Ok y → (fault ≡ None) × (x ≡ y)
no_fault None x y read = (refl, cc)
no_fault (Some f) x y read = absurd cc

header_fits :
    (magic version kind session : Bool) (rest : Option FrameFault)
    → cond (not magic) (Some Magic) (cond (not version) (Some Version) (cond (not kind) (Some Kind) (cond (not session) (Some Session) rest))) ≡ None
    → (magic ≡ true) × (version ≡ true) × (kind ≡ true) × (session ≡ true) × (rest ≡ None)
header_fits true true true true rest none = (refl, refl, refl, refl, none)
header_fits false version kind session rest none = absurd cc
header_fits true false kind session rest none = absurd cc
header_fits true true false session rest none = absurd cc
header_fits true true true false rest none = absurd cc

is_vector :
    (is_data : Bool) (g r generation row : ℕ) (data_fault end_fault : Option FrameFault)
    → cond is_data (Vector g r) End ≡ Vector generation row → cond is_data data_fault end_fault ≡ None
    → (is_data ≡ true) × (data_fault ≡ None) × (g ≡ generation) × (r ≡ row)
is_vector true g r generation row data_fault end_fault frame none = (refl, none, cc, cc)
is_vector false g r generation row data_fault end_fault frame none = absurd cc

is_end :
    (is_data : Bool) (g r : ℕ) (data_fault end_fault : Option FrameFault)
    → cond is_data (Vector g r) End ≡ End → cond is_data data_fault end_fault ≡ None → (is_data ≡ false) × (end_fault ≡ None)
is_end true g r data_fault end_fault frame none = absurd cc
is_end false g r data_fault end_fault frame none = (refl, none)

vector_fits : (generation row : Bool) → cond generation (cond row None (Some Row)) (Some Generation) ≡ None → (generation ≡ true) × (row ≡ true)
vector_fits true true none = (refl, refl)
vector_fits true false none = absurd cc
vector_fits false row none = absurd cc

end_fits : (zeros : Bool) → cond zeros None (Some EndRow) ≡ None → zeros ≡ true
end_fits true none = refl
end_fits false none = absurd cc

second_kind : (kind : ℕ) → (eqb kind 0 || eqb kind 1) ≡ true → eqb kind 0 ≡ false → kind ≡ 1
second_kind kind known other =
    elim (or_cases (eqb kind 0) (eqb kind 1) known) [
      | inl zero ↦ absurd cc
      | inr one ↦ eqb-true kind 1 one
    ]

abbrev magic_fits : List ℕ → Bool
magic_fits bytes = eqb (get_or bytes 0 0) 75 && eqb (get_or bytes 1 0) 75

header_read :
    (t : TicketFields) (kind : ℕ) (bytes : List ℕ) → magic_fits bytes ≡ true → eqb (get_or bytes 2 0) 1 ≡ true → kind_in bytes ≡ kind
    → eqb (session_in bytes) t.session ≡ true → HasHeader t kind bytes
header_read t kind bytes magic version kind_is session =
    let letters = and_parts (eqb (get_or bytes 0 0) 75) (eqb (get_or bytes 1 0) 75) magic in
    record {
      first = eqb-true (get_or bytes 0 0) 75 letters.0;
      second = eqb-true (get_or bytes 1 0) 75 letters.1;
      version = eqb-true (get_or bytes 2 0) 1 version;
      kind_is = kind_is;
      session = eqb-true (session_in bytes) t.session session;
    }

pub fields_read : (t : TicketFields) (bytes : List ℕ) (frame : FrameValue) → frame_read t bytes ≡ Ok frame → HasFields t bytes frame × IsFrame t frame
unfolding frame_read frame_fault
fields_read t bytes frame read =
    let found = no_fault (frame_fault t bytes) (frame_in bytes) frame read in
    let kind = kind_in bytes in
    let generation = generation_in bytes in
    let row = row_in bytes in
    let session = eqb (session_in bytes) t.session in
    let header = header_fits (magic_fits bytes) (eqb (get_or bytes 2 0) 1) (eqb kind 0 || eqb kind 1) session (cond (eqb kind 0) (data_fault t bytes) (end_fault bytes)) found.0 in
    elim frame as (λ f. frame_in bytes ≡ f → HasFields t bytes f × IsFrame t f) [
      | Vector g r ↦ λ is.
          let vector = is_vector (eqb kind 0) generation row g r (data_fault t bytes) (end_fault bytes) is header.4 in
          let fits = vector_fits (ltb generation (generations t)) (ltb row (2 ^ width t.code)) vector.1 in
          let below : generation < generations t = ltb-true generation (generations t) fits.0 in
          let narrow : row < 2 ^ width t.code = ltb-true row (2 ^ width t.code) fits.1 in (
            (header_read t 0 bytes header.0 header.1 (eqb-true kind 0 vector.0) header.3, vector.2, vector.3),
            (subst (λ n. n < generations t) vector.2 below, subst (λ n. n < 2 ^ width t.code) vector.3 narrow),
          )
      | End ↦ λ is.
          let end = is_end (eqb kind 0) generation row (data_fault t bytes) (end_fault bytes) is header.4 in
          let zeros = and_parts (eqb generation 0) (eqb row 0) (end_fits (eqb generation 0 && eqb row 0) end.1) in (
            (header_read t 1 bytes header.0 header.1 (second_kind kind header.2 end.0) header.3, eqb-true generation 0 zeros.0, eqb-true row 0 zeros.1),
            tt,
          )
    ] found.1

-- ---- from the numbers to the bytes

-- 20 bytes in their parts
parts :
    (bytes : List ℕ) → length bytes ≡ 20
    → bytes
    ≡ (get_or bytes 0 0 ∷ get_or bytes 1 0 ∷ get_or bytes 2 0 ∷ get_or bytes 3 0 ∷ slice_range bytes 4 8)
    ++ slice_range bytes 8 12 ++ slice_range bytes 12 20
parts bytes len =
    let a : bytes ≡ get_or bytes 0 0 ∷ drop 1 bytes = drop_more bytes 0 0 (omega arith) in
    let b : drop 1 bytes ≡ get_or bytes 1 0 ∷ drop 2 bytes = drop_more bytes 1 0 (omega arith) in
    let c : drop 2 bytes ≡ get_or bytes 2 0 ∷ drop 3 bytes = drop_more bytes 2 0 (omega arith) in
    let d : drop 3 bytes ≡ get_or bytes 3 0 ∷ drop 4 bytes = drop_more bytes 3 0 (omega arith) in
    let session : drop 4 bytes ≡ take 4 (drop 4 bytes) ++ drop 8 bytes = sym (take-append-drop 4 (drop 4 bytes)) ∙ ap (λ rest. take 4 (drop 4 bytes) ++ rest) (drop-drop 4 4 bytes) in
    let generation : drop 8 bytes ≡ take 4 (drop 8 bytes) ++ drop 12 bytes = sym (take-append-drop 4 (drop 8 bytes)) ∙ ap (λ rest. take 4 (drop 8 bytes) ++ rest) (drop-drop 4 8 bytes) in
    let row : take 8 (drop 12 bytes) ≡ drop 12 bytes = take_all 8 (drop 12 bytes) (omega (arith, length-drop 12 bytes)) in
    let numbers : drop 4 bytes ≡ take 4 (drop 4 bytes) ++ take 4 (drop 8 bytes) ++ take 8 (drop 12 bytes) =
    session ∙ ap (λ rest. take 4 (drop 4 bytes) ++ rest) (generation ∙ ap (λ rest. take 4 (drop 8 bytes) ++ rest) (sym row))
    ∙ sym (append_assoc (take 4 (drop 4 bytes)) (take 4 (drop 8 bytes)) (take 8 (drop 12 bytes))) in
    cc

-- a list of the same parts
same_parts :
    (a b c d a' b' c' d' : ℕ) (s u v s' u' v' : List ℕ) → a ≡ a' → b ≡ b' → c ≡ c' → d ≡ d' → s' ≡ s → u' ≡ u → v' ≡ v
    → (a ∷ b ∷ c ∷ d ∷ s) ++ u ++ v ≡ (a' ∷ b' ∷ c' ∷ d' ∷ s') ++ u' ++ v'
same_parts a b c d a' b' c' d' s u v s' u' v' ea eb ec ed es eu ev = cc

-- what lies in a list of bytes, and the zeros behind it, are bytes
bytes_below : (bytes : List ℕ) → All (λ b. b < 256) bytes → (i : ℕ) → get_or bytes i 0 < 256
bytes_below bytes below i =
    elim (cases_lt i (length bytes)) [
      | inl within ↦ below i 0 within
      | inr past ↦ rw (get_or_past bytes i 0 past) (omega arith)
    ]

part_below : (bytes : List ℕ) (n k : ℕ) → All (λ b. b < 256) bytes → (i : ℕ) → get_or (take k (drop n bytes)) i 0 < 256
part_below bytes n k below = bytes_below (take k (drop n bytes)) (All-take (λ b. b < 256) k (drop n bytes) (All-drop (λ b. b < 256) n bytes below))

pub text_from_fields :
    (t : TicketFields) (kind generation row : ℕ) (bytes : List ℕ) → AreFrameBytes bytes → HasHeader t kind bytes → generation_in bytes ≡ generation
    → row_in bytes ≡ row → bytes ≡ header t kind ++ to_be_bytes w32 generation ++ to_be_bytes w64 row
text_from_fields t kind generation row bytes are has g r =
    let session_bytes = be_bytes_4 (take 4 (drop 4 bytes)) t.session (omega (arith, are.len, length-take 4 (drop 4 bytes), length-drop 4 bytes)) (part_below bytes 4 4 are.below) (sym has.session) in
    let generation_bytes = be_bytes_4 (take 4 (drop 8 bytes)) generation (omega (arith, are.len, length-take 4 (drop 8 bytes), length-drop 8 bytes)) (part_below bytes 8 4 are.below) (sym g) in
    let row_bytes = be_bytes_8 (take 8 (drop 12 bytes)) row (omega (arith, are.len, length-take 8 (drop 12 bytes), length-drop 12 bytes)) (part_below bytes 12 8 are.below) (sym r) in
    parts bytes are.len
    ∙ same_parts (get_or bytes 0 0) (get_or bytes 1 0) (get_or bytes 2 0) (get_or bytes 3 0) 75 75 1 kind (take 4 (drop 4 bytes)) (take 4 (drop 8 bytes)) (take 8 (drop 12 bytes)) (to_be_bytes w32 t.session) (to_be_bytes w32 generation) (to_be_bytes w64 row) has.first has.second has.version has.kind_is session_bytes generation_bytes row_bytes

pub fields_text : (t : TicketFields) (bytes : List ℕ) (frame : FrameValue) → AreFrameBytes bytes → HasFields t bytes frame → bytes ≡ frame_text t frame
unfolding frame_text
fields_text t bytes (Vector generation row) are has = text_from_fields t 0 generation row bytes are has.0 has.1 has.2
fields_text t bytes End are has = text_from_fields t 1 0 0 bytes are has.0 has.1 has.2

-- ---- the laws

pub text_from_frame : (t : TicketFields) (bytes : List ℕ) (frame : FrameValue) → AreFrameBytes bytes → frame_read t bytes ≡ Ok frame → IsFrame t frame × (bytes ≡ frame_text t frame)
text_from_frame t bytes frame are read =
    let has = fields_read t bytes frame read in
    (has.1, fields_text t bytes frame are has.0)

pub frame_from_text : (t : TicketFields) (bytes : List ℕ) (frame : FrameValue) → IsTicket t → IsFrame t frame × (bytes ≡ frame_text t frame) → frame_read t bytes ≡ Ok frame
frame_from_text t bytes frame ticket is =
    rw is.1 (read_again t (frame_text t frame) frame (text_fields t frame (ticket_fits t ticket) is.0) is.0)

pub same_frames : (t : TicketFields) (one other : FrameValue) → IsTicket t → IsFrame t one → IsFrame t other → frame_text t one ≡ frame_text t other → one ≡ other
same_frames t one other ticket is_one is_other same =
    let read_one : frame_read t (frame_text t one) ≡ Ok one = frame_from_text t (frame_text t one) one ticket (is_one, refl) in
    let read_other : frame_read t (frame_text t one) ≡ Ok other = frame_from_text t (frame_text t one) other ticket (is_other, same) in
    cc
