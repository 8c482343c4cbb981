-- What is read of pieces, one piece after another.
use Rattle.std.proofs.Common.{◌≡◌, ℕ, zero, suc, ◌+◌, ◌*◌, ◌/◌, ◌%◌, ◌<◌, ◌≤◌, ltb, leb, eqb, ◌&&◌, All, lit≤, inl, inr, Bool, true, false, cond, List, [], ◌∷◌, ◌++◌, length, map, take, drop, get_or, Some, Ok, Err, refl, sym, ap, ◌∙◌, arith, add-zero, add-one}
use Rattle.std.specs.Prelude.{slice_get}
use Rattle.std.proofs.Math.Seq.{take-suc}
use Rattle.std.specs.List.{AllByRecursion}
use Rattle.std.specs.Simd.{first_chunks}
use Rattle.std.proofs.Math.Nat.{div-le_of_le-mul}
use Rattle.std.proofs.lemmas.Bool.{false≢true, true≢false, cases_Bool, and_parts, leb-true}
use Rattle.std.proofs.lemmas.List.Elements.{All-from_recursion}
use Rattle.std.proofs.lemmas.List.{map-append, append-nil, drop_more, take-append-drop, length-map, take_all}
use Rattle.std.proofs.lemmas.Option.{get_or_from_slice_get}
use Rattle.std.proofs.lemmas.List.Sums.{sum_by-append, count_by-le-length}
use Rattle.kk_frame.specs.declared.datagram.TheConstants.{MAX_DATAGRAM_FRAMES}
use Rattle.kk_frame.specs.declared.fault.FrameFault.{FrameFault}
use Rattle.kk_frame.specs.declared.fault.FrameFault.TheVariants.{Magic, Version, Kind, Session, Generation, Row, EndRow}
use Rattle.kk_code.specs.Ticket.{TicketFields}
use Rattle.kk_frame.specs.declared.gate_count.Refused.{Refused}
use Rattle.kk_frame.specs.declared.received.Received.{Received}
use Rattle.kk_frame.specs.Frame.{FrameValue, Vector, End, IsFrame, frame_read}
use Rattle.kk_frame.specs.Datagram.{Reading, has_datagram_length, pieces, is_end, has_end, up_to_end, readings, data_frames}
use Rattle.kk_frame.specs.Events.{breaks, refusals, refused_of}
use Rattle.kk_frame.specs.Counting.{one_more, sum_of, IsAtMost, HasReadings, IsCounted}
use Rattle.kk_frame.specs.declared.frame.TheConstants.{FRAME_BYTES}
use Rattle.kk_frame.proofs.Texts.{fields_read}

small_bit : (b : Bool) → cond b 0 1 ≤ MAX_DATAGRAM_FRAMES
small_bit true = lit≤ tt
small_bit false = lit≤ tt

pub is_false : (b : Bool) → (b ≡ true → false ≡ true) → b ≡ false
is_false true h = absurd (false≢true (h refl))
is_false false h = refl

-- ---- data frames

pub data_frames-append : (a b : List Reading) → data_frames (a ++ b) ≡ data_frames a ++ data_frames b
unfolding data_frames
data_frames-append [] b = refl
data_frames-append (Ok (Vector g r) ∷ a) b = ap (λ frames. (g, r) ∷ frames) (data_frames-append a b)
data_frames-append (Ok End ∷ a) b = data_frames-append a b
data_frames-append (Err fault ∷ a) b = data_frames-append a b

pub length-data_frames : (rs : List Reading) → length (data_frames rs) ≤ length rs
unfolding data_frames
length-data_frames [] = omega arith
length-data_frames (Ok (Vector g r) ∷ rs) = omega (arith, length-data_frames rs)
length-data_frames (Ok End ∷ rs) = omega (arith, length-data_frames rs)
length-data_frames (Err fault ∷ rs) = omega (arith, length-data_frames rs)

pub data_frames-vector : (g r : ℕ) → data_frames (Ok (Vector g r) ∷ []) ≡ (g, r) ∷ []
unfolding data_frames
data_frames-vector g r = refl

pub data_frames-end : data_frames (Ok End ∷ []) ≡ []
unfolding data_frames
data_frames-end = refl

pub data_frames-fault : (fault : FrameFault) → data_frames (Err fault ∷ []) ≡ []
unfolding data_frames
data_frames-fault fault = refl

-- ---- the first END

has_end-cons : (end : Bool) (rest : Bool) → cond end true rest ≡ false → (end ≡ false) × (rest ≡ false)
has_end-cons true rest none = absurd (true≢false none)
has_end-cons false rest none = (refl, none)

pub has_end-push : (front : List Reading) (r : Reading) → has_end front ≡ false → has_end (front ++ r ∷ []) ≡ has_end (r ∷ [])
has_end-push [] r none = refl
has_end-push (first ∷ front) r none =
    let parts = has_end-cons (is_end first) (has_end front) none in
    rw parts.0 (has_end-push front r parts.1)

pub up_to_end-none : (rs : List Reading) → has_end rs ≡ false → up_to_end rs ≡ rs
unfolding up_to_end
up_to_end-none [] none = refl
up_to_end-none (r ∷ rs) none =
    let parts = has_end-cons (is_end r) (has_end rs) none in
    rw parts.0 (ap (λ rest. r ∷ rest) (up_to_end-none rs parts.1))

pub up_to_end-at : (front : List Reading) (r : Reading) (more : List Reading) → has_end front ≡ false → is_end r ≡ true → up_to_end (front ++ r ∷ more) ≡ front ++ r ∷ []
unfolding up_to_end
up_to_end-at [] r more none end = rw end refl
up_to_end-at (first ∷ front) r more none end =
    let parts = has_end-cons (is_end first) (has_end front) none in
    rw parts.0 (ap (λ rest. first ∷ rest) (up_to_end-at front r more parts.1 end))

-- ---- what is refused

pub refusals-append : (fault : FrameFault) (a b : List Reading) → refusals fault (a ++ b) ≡ refusals fault a + refusals fault b
refusals-append fault a b = sum_by-append _ a b

refusals-same : (fault : FrameFault) (rs : List Reading) (r : Reading) → refusals fault (r ∷ []) ≡ 0 → refusals fault (rs ++ r ∷ []) ≡ refusals fault rs
refusals-same fault rs r none = refusals-append fault rs (r ∷ []) ∙ ap (λ n. refusals fault rs + n) none ∙ add-zero _

refusals-more : (fault : FrameFault) (rs : List Reading) (r : Reading) → refusals fault (r ∷ []) ≡ 1 → refusals fault (rs ++ r ∷ []) ≡ refusals fault rs + 1
refusals-more fault rs r one = refusals-append fault rs (r ∷ []) ∙ ap (λ n. refusals fault rs + n) one

pub refused_of-frame : (bad : ℕ) (rs : List Reading) (frame : FrameValue) → refused_of bad (rs ++ Ok frame ∷ []) ≡ refused_of bad rs
refused_of-frame bad rs frame =
    let r : Reading = Ok frame in
    let magic = refusals-same Magic rs r refl in
    let version = refusals-same Version rs r refl in
    let kind = refusals-same Kind rs r refl in
    let session = refusals-same Session rs r refl in
    let generation = refusals-same Generation rs r refl in
    let row = refusals-same Row rs r refl in
    let endrow = refusals-same EndRow rs r refl in
    cc

pub refused_of-fault : (bad : ℕ) (rs : List Reading) (fault : FrameFault) → refused_of bad (rs ++ Err fault ∷ []) ≡ one_more fault (refused_of bad rs)
refused_of-fault bad rs Magic =
    let r : Reading = Err Magic in
    let magic = refusals-more Magic rs r refl in
    let version = refusals-same Version rs r refl in
    let kind = refusals-same Kind rs r refl in
    let session = refusals-same Session rs r refl in
    let generation = refusals-same Generation rs r refl in
    let row = refusals-same Row rs r refl in
    let endrow = refusals-same EndRow rs r refl in
    cc
refused_of-fault bad rs Version =
    let r : Reading = Err Version in
    let magic = refusals-same Magic rs r refl in
    let version = refusals-more Version rs r refl in
    let kind = refusals-same Kind rs r refl in
    let session = refusals-same Session rs r refl in
    let generation = refusals-same Generation rs r refl in
    let row = refusals-same Row rs r refl in
    let endrow = refusals-same EndRow rs r refl in
    cc
refused_of-fault bad rs Kind =
    let r : Reading = Err Kind in
    let magic = refusals-same Magic rs r refl in
    let version = refusals-same Version rs r refl in
    let kind = refusals-more Kind rs r refl in
    let session = refusals-same Session rs r refl in
    let generation = refusals-same Generation rs r refl in
    let row = refusals-same Row rs r refl in
    let endrow = refusals-same EndRow rs r refl in
    cc
refused_of-fault bad rs Session =
    let r : Reading = Err Session in
    let magic = refusals-same Magic rs r refl in
    let version = refusals-same Version rs r refl in
    let kind = refusals-same Kind rs r refl in
    let session = refusals-more Session rs r refl in
    let generation = refusals-same Generation rs r refl in
    let row = refusals-same Row rs r refl in
    let endrow = refusals-same EndRow rs r refl in
    cc
refused_of-fault bad rs Generation =
    let r : Reading = Err Generation in
    let magic = refusals-same Magic rs r refl in
    let version = refusals-same Version rs r refl in
    let kind = refusals-same Kind rs r refl in
    let session = refusals-same Session rs r refl in
    let generation = refusals-more Generation rs r refl in
    let row = refusals-same Row rs r refl in
    let endrow = refusals-same EndRow rs r refl in
    cc
refused_of-fault bad rs Row =
    let r : Reading = Err Row in
    let magic = refusals-same Magic rs r refl in
    let version = refusals-same Version rs r refl in
    let kind = refusals-same Kind rs r refl in
    let session = refusals-same Session rs r refl in
    let generation = refusals-same Generation rs r refl in
    let row = refusals-more Row rs r refl in
    let endrow = refusals-same EndRow rs r refl in
    cc
refused_of-fault bad rs EndRow =
    let r : Reading = Err EndRow in
    let magic = refusals-same Magic rs r refl in
    let version = refusals-same Version rs r refl in
    let kind = refusals-same Kind rs r refl in
    let session = refusals-same Session rs r refl in
    let generation = refusals-same Generation rs r refl in
    let row = refusals-same Row rs r refl in
    let endrow = refusals-more EndRow rs r refl in
    cc

pub refused_of-append : (bad more : ℕ) (a b : List Reading) → refused_of (bad + more) (a ++ b) ≡ sum_of (refused_of bad a) (refused_of more b)
refused_of-append bad more a b =
    let magic = refusals-append Magic a b in
    let version = refusals-append Version a b in
    let kind = refusals-append Kind a b in
    let session = refusals-append Session a b in
    let generation = refusals-append Generation a b in
    let row = refusals-append Row a b in
    let endrow = refusals-append EndRow a b in
    cc

pub refused_of-at_most : (bad n : ℕ) (rs : List Reading) → bad ≤ n → length rs ≤ n → IsAtMost n (refused_of bad rs)
refused_of-at_most bad n rs small few = record {
  badlength = small;
  magic = omega (arith, few, count_by-le-length (breaks Magic) rs);
  version = omega (arith, few, count_by-le-length (breaks Version) rs);
  kind = omega (arith, few, count_by-le-length (breaks Kind) rs);
  session = omega (arith, few, count_by-le-length (breaks Session) rs);
  generation = omega (arith, few, count_by-le-length (breaks Generation) rs);
  row = omega (arith, few, count_by-le-length (breaks Row) rs);
  endrow = omega (arith, few, count_by-le-length (breaks EndRow) rs);
}

-- ---- pieces

-- the readings of the pieces before place i, and the one there
pub readings-push : (t : TicketFields) (frames : List (List ℕ)) (i : ℕ) (piece : List ℕ) (r : Reading) → i < length frames → slice_get frames i ≡ Some piece → frame_read t piece ≡ r → map (frame_read t) (take (i + 1) frames) ≡ map (frame_read t) (take i frames) ++ r ∷ []
readings-push t frames i piece r inside at read =
    ap (λ n. map (frame_read t) (take n frames)) (add-one i) ∙ ap (map (frame_read t)) (take-suc frames i [] inside)
    ∙ map-append (frame_read t) (take i frames) (get_or frames i [] ∷ [])
    ∙ ap (λ p. map (frame_read t) (take i frames) ++ frame_read t p ∷ []) (get_or_from_slice_get frames i piece [] at)
    ∙ ap (λ x. map (frame_read t) (take i frames) ++ x ∷ []) read

readings-split : (t : TicketFields) (frames : List (List ℕ)) (i : ℕ) (piece : List ℕ) (r : Reading) → i < length frames → slice_get frames i ≡ Some piece → frame_read t piece ≡ r → map (frame_read t) frames ≡ map (frame_read t) (take i frames) ++ r ∷ map (frame_read t) (drop (i + 1) frames)
readings-split t frames i piece r inside at read =
    ap (map (frame_read t)) (sym (take-append-drop i frames) ∙ ap (λ rest. take i frames ++ rest) (drop_more frames i [] inside))
    ∙ map-append (frame_read t) (take i frames) (get_or frames i [] ∷ drop (i + 1) frames)
    ∙ ap (λ p. map (frame_read t) (take i frames) ++ frame_read t p ∷ map (frame_read t) (drop (i + 1) frames)) (get_or_from_slice_get frames i piece [] at)
    ∙ ap (λ x. map (frame_read t) (take i frames) ++ x ∷ map (frame_read t) (drop (i + 1) frames)) read

-- what is read where no piece is an END, and where one is
pub readings-none : (size : ℕ) (t : TicketFields) (bytes : List ℕ) → has_datagram_length size bytes ≡ true → has_end (map (frame_read t) (pieces size bytes)) ≡ false → readings size t bytes ≡ map (frame_read t) (pieces size bytes)
unfolding readings
readings-none size t bytes good none = rw good (up_to_end-none (map (frame_read t) (pieces size bytes)) none)

pub readings-at : (size : ℕ) (t : TicketFields) (bytes : List ℕ) (i : ℕ) (piece : List ℕ) → has_datagram_length size bytes ≡ true → i < length (pieces size bytes) → slice_get (pieces size bytes) i ≡ Some piece → frame_read t piece ≡ Ok End → has_end (map (frame_read t) (take i (pieces size bytes))) ≡ false → readings size t bytes ≡ map (frame_read t) (take i (pieces size bytes)) ++ Ok End ∷ []
unfolding readings
readings-at size t bytes i piece good inside at read none =
    let frames = pieces size bytes in
    rw good (ap up_to_end (readings-split t frames i piece (Ok End) inside at read) ∙ up_to_end-at (map (frame_read t) (take i frames)) (Ok End) (map (frame_read t) (drop (i + 1) frames)) none refl)

pub readings-bad : (size : ℕ) (t : TicketFields) (bytes : List ℕ) → has_datagram_length size bytes ≡ false → readings size t bytes ≡ []
unfolding readings
readings-bad size t bytes bad = rw bad refl

-- ---- what was received, one piece after another

pub HasReadings-none : (bad : ℕ) (r : Received) → r.batch ≡ [] → r.refused ≡ refused_of bad [] → r.has_end ≡ false → HasReadings bad [] r
unfolding data_frames
HasReadings-none bad r batch refused end = record { batch = batch; refused = refused; end = end }

pub HasReadings-vector : (rs : List Reading) (r r' : Received) (g row : ℕ) → HasReadings 0 rs r → r.has_end ≡ false → r'.batch ≡ r.batch ++ (g, row) ∷ [] → r'.refused ≡ r.refused → r'.has_end ≡ r.has_end → HasReadings 0 (rs ++ Ok (Vector g row) ∷ []) r'
HasReadings-vector rs r r' g row h none batch refused end = record {
  batch = batch ∙ ap (λ b. b ++ (g, row) ∷ []) h.batch ∙ sym (data_frames-append rs (Ok (Vector g row) ∷ []) ∙ ap (λ f. data_frames rs ++ f) (data_frames-vector g row));
  refused = refused ∙ h.refused ∙ sym (refused_of-frame 0 rs (Vector g row));
  end = end ∙ none ∙ sym (has_end-push rs (Ok (Vector g row)) (sym h.end ∙ none));
}

pub HasReadings-fault : (rs : List Reading) (r r' : Received) (fault : FrameFault) → HasReadings 0 rs r → r.has_end ≡ false → r'.batch ≡ r.batch → r'.refused ≡ one_more fault r.refused → r'.has_end ≡ r.has_end → HasReadings 0 (rs ++ Err fault ∷ []) r'
HasReadings-fault rs r r' fault h none batch refused end = record {
  batch = batch ∙ h.batch ∙ sym (data_frames-append rs (Err fault ∷ []) ∙ ap (λ f. data_frames rs ++ f) (data_frames-fault fault) ∙ append-nil (data_frames rs));
  refused = refused ∙ ap (one_more fault) h.refused ∙ sym (refused_of-fault 0 rs fault);
  end = end ∙ none ∙ sym (has_end-push rs (Err fault) (sym h.end ∙ none));
}

pub HasReadings-end : (rs : List Reading) (r r' : Received) → HasReadings 0 rs r → r.has_end ≡ false → r'.batch ≡ r.batch → r'.refused ≡ r.refused → r'.has_end ≡ true → HasReadings 0 (rs ++ Ok End ∷ []) r'
HasReadings-end rs r r' h none batch refused end = record {
  batch = batch ∙ h.batch ∙ sym (data_frames-append rs (Ok End ∷ []) ∙ ap (λ f. data_frames rs ++ f) data_frames-end ∙ append-nil (data_frames rs));
  refused = refused ∙ h.refused ∙ sym (refused_of-frame 0 rs End);
  end = end ∙ sym (has_end-push rs (Ok End) (sym h.end ∙ none));
}

-- what is received of a datagram, by its length
pub data_frames-bad : (size : ℕ) (t : TicketFields) (bytes : List ℕ) → has_datagram_length size bytes ≡ false → data_frames (readings size t bytes) ≡ []
unfolding data_frames
data_frames-bad size t bytes bad = ap data_frames (readings-bad size t bytes bad)

pub HasReadings-bad : (size : ℕ) (t : TicketFields) (bytes : List ℕ) (r : Received) → has_datagram_length size bytes ≡ false → HasReadings 1 [] r → HasReadings (cond (has_datagram_length size bytes) 0 1) (readings size t bytes) r
HasReadings-bad size t bytes r bad h = let nothing = readings-bad size t bytes bad in rw (nothing, bad) h

pub HasReadings-good : (size : ℕ) (t : TicketFields) (bytes : List ℕ) (rs : List Reading) (r : Received) → has_datagram_length size bytes ≡ true → readings size t bytes ≡ rs → HasReadings 0 rs r → HasReadings (cond (has_datagram_length size bytes) 0 1) (readings size t bytes) r
HasReadings-good size t bytes rs r good are h = rw (are, good) h

-- ---- how many readings a datagram has

length-first_chunks : (n k : ℕ) (bytes : List ℕ) → length (first_chunks n k bytes) ≡ k
length-first_chunks n zero bytes = refl
length-first_chunks n (suc k) bytes = ap suc (length-first_chunks n k (drop n bytes))

length-up_to_end : (rs : List Reading) → length (up_to_end rs) ≤ length rs
unfolding up_to_end
length-up_to_end [] = omega arith
length-up_to_end (r ∷ rs) =
    elim (cases_Bool (is_end r)) [
      | inl end ↦ rw end (omega arith)
      | inr more ↦ rw more (omega (arith, length-up_to_end rs))
    ]

few_pieces : (size : ℕ) (bytes : List ℕ) → 0 < size → has_datagram_length size bytes ≡ true → length (pieces size bytes) ≤ MAX_DATAGRAM_FRAMES
few_pieces size bytes some good =
    let parts = and_parts (ltb 0 (length bytes) && leb (length bytes) (MAX_DATAGRAM_FRAMES * size)) (eqb (length bytes % size) 0) good in
    let bound = leb-true (length bytes) (MAX_DATAGRAM_FRAMES * size) (and_parts (ltb 0 (length bytes)) (leb (length bytes) (MAX_DATAGRAM_FRAMES * size)) parts.0).1 in
    let quotient : length bytes / size ≤ MAX_DATAGRAM_FRAMES = div-le_of_le-mul size (omega (arith, bound)) in
    omega (arith, length-first_chunks size (length bytes / size) bytes, quotient)

pub few_readings : (size : ℕ) (t : TicketFields) (bytes : List ℕ) → 0 < size → length (readings size t bytes) ≤ MAX_DATAGRAM_FRAMES
unfolding readings
few_readings size t bytes some =
    elim (cases_Bool (has_datagram_length size bytes)) [
      | inl good ↦
          let all = map (frame_read t) (pieces size bytes) in
          rw good (omega (arith, length-up_to_end all, length-map (pieces size bytes) (frame_read t), few_pieces size bytes some good))
      | inr bad ↦ rw bad (omega arith)
    ]

-- ---- frames that are read are the ticket's

AreFrames : TicketFields → List Reading → Type 0
AreFrames t [] = Unit {0}
AreFrames t (Ok frame ∷ rs) = IsFrame t frame × AreFrames t rs
AreFrames t (Err fault ∷ rs) = AreFrames t rs

AreFrames-cons : (t : TicketFields) (piece : List ℕ) (r : Reading) (rs : List Reading) → frame_read t piece ≡ r → AreFrames t rs → AreFrames t (r ∷ rs)
unfolding AreFrames
AreFrames-cons t piece (Ok frame) rs read are = ((fields_read t piece frame read).1, are)
AreFrames-cons t piece (Err fault) rs read are = are

AreFrames-map : (t : TicketFields) (frames : List (List ℕ)) → AreFrames t (map (frame_read t) frames)
unfolding AreFrames
AreFrames-map t [] = tt
AreFrames-map t (piece ∷ frames) = AreFrames-cons t piece (frame_read t piece) (map (frame_read t) frames) refl (AreFrames-map t frames)

AreFrames-up_to_end : (t : TicketFields) (rs : List Reading) → AreFrames t rs → AreFrames t (up_to_end rs)
unfolding AreFrames up_to_end
AreFrames-up_to_end t [] are = tt
AreFrames-up_to_end t (Ok (Vector g row) ∷ rs) are = (are.0, AreFrames-up_to_end t rs are.1)
AreFrames-up_to_end t (Ok End ∷ rs) are = (are.0, tt)
AreFrames-up_to_end t (Err fault ∷ rs) are = AreFrames-up_to_end t rs are

AreFrames-readings : (size : ℕ) (t : TicketFields) (bytes : List ℕ) → AreFrames t (readings size t bytes)
unfolding AreFrames readings
AreFrames-readings size t bytes =
    elim (cases_Bool (has_datagram_length size bytes)) [
      | inl good ↦ rw good (AreFrames-up_to_end t (map (frame_read t) (pieces size bytes)) (AreFrames-map t (pieces size bytes)))
      | inr bad ↦ rw bad tt
    ]

in_range : (t : TicketFields) (rs : List Reading) → AreFrames t rs → AllByRecursion (λ f. IsFrame t (Vector f.0 f.1)) (data_frames rs)
unfolding AreFrames data_frames
in_range t [] are = tt
in_range t (Ok (Vector g row) ∷ rs) are = (are.0, in_range t rs are.1)
in_range t (Ok End ∷ rs) are = in_range t rs are.1
in_range t (Err fault ∷ rs) are = in_range t rs are

pub data_frames_in_range : (size : ℕ) (t : TicketFields) (bytes : List ℕ) → All (λ f. IsFrame t (Vector f.0 f.1)) (data_frames (readings size t bytes))
data_frames_in_range size t bytes = All-from_recursion _ _ (in_range t (readings size t bytes) (AreFrames-readings size t bytes))

-- ---- bounds on counts

pub IsAtMost-le : (n m : ℕ) (r : Refused) → IsAtMost n r → n ≤ m → IsAtMost m r
IsAtMost-le n m r h le = grind arith

pub IsAtMost-sum : (n m : ℕ) (a b : Refused) → IsAtMost n a → IsAtMost m b → IsAtMost (n + m) (sum_of a b)
IsAtMost-sum n m a b ha hb = grind arith

-- what is refused of one datagram
pub received_at_most : (size : ℕ) (t : TicketFields) (bytes : List ℕ) (r : Received) → 0 < size → HasReadings (cond (has_datagram_length size bytes) 0 1) (readings size t bytes) r → IsAtMost MAX_DATAGRAM_FRAMES r.refused
received_at_most size t bytes r some h =
    rw h.refused (refused_of-at_most (cond (has_datagram_length size bytes) 0 1) MAX_DATAGRAM_FRAMES (readings size t bytes) (small_bit (has_datagram_length size bytes)) (few_readings size t bytes some))

-- ---- a datagram of one piece

one_is_whole : (bytes : List ℕ) → length bytes ≡ FRAME_BYTES → has_datagram_length FRAME_BYTES bytes ≡ true
one_is_whole bytes long = rw long refl

one_to_end : (r : Reading) → up_to_end (r ∷ []) ≡ r ∷ []
unfolding up_to_end
one_to_end (Ok (Vector g row)) = refl
one_to_end (Ok End) = refl
one_to_end (Err fault) = refl

pub readings-one : (t : TicketFields) (bytes : List ℕ) (r : Reading) → length bytes ≡ FRAME_BYTES → frame_read t bytes ≡ r → readings FRAME_BYTES t bytes ≡ r ∷ []
unfolding readings
readings-one t bytes r long read =
    let whole : take FRAME_BYTES bytes ≡ bytes = take_all FRAME_BYTES bytes (omega (arith, long)) in
    rw (one_is_whole bytes long, long)
    (ap (λ p. up_to_end (frame_read t p ∷ [])) whole ∙ ap (λ x. up_to_end (x ∷ [])) read ∙ one_to_end r)

-- what is counted of it
pub IsCounted-one : (t : TicketFields) (bytes : List ℕ) (r : Reading) (frames : ℕ) (refused : Refused) (end : Bool) → length bytes ≡ FRAME_BYTES → frame_read t bytes ≡ r
    → frames ≡ length (data_frames (r ∷ [])) → refused ≡ refused_of 0 (r ∷ []) → end ≡ has_end (r ∷ []) → IsCounted FRAME_BYTES t bytes frames refused end
IsCounted-one t bytes r frames refused end long read frames_are refused_is end_is =
    let whole = one_is_whole bytes long in
    let one = readings-one t bytes r long read in
    record {
      frames_are = frames_are ∙ sym (ap (λ rs. length (data_frames rs)) one);
      refused_is = refused_is ∙ sym (ap (λ rs. refused_of 0 rs) one) ∙ sym (ap (λ b. refused_of (cond b 0 1) (readings FRAME_BYTES t bytes)) whole);
      end_is = end_is ∙ sym (ap has_end one);
    }

pub one_vector : (g row : ℕ) → 1 ≡ length (data_frames (Ok (Vector g row) ∷ []))
one_vector g row = sym (ap length (data_frames-vector g row))

pub one_end : 0 ≡ length (data_frames (Ok End ∷ []))
one_end = sym (ap length data_frames-end)

pub one_fault : (fault : FrameFault) → 0 ≡ length (data_frames (Err fault ∷ []))
one_fault fault = sym (ap length (data_frames-fault fault))
