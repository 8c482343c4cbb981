-- A source piece by piece: what was taken of it so far, and where the gate of its pieces stops.
use Rattle.std.proofs.Common.{◌≡◌, ℕ, ◌+◌, ◌*◌, ◌<◌, true, false, List, [], ◌∷◌, ◌++◌, length, take, drop, Option, Some, None, Ok, Err, refl, ap, sym, ◌∙◌, arith, append_assoc, length-append, length-take, subst, lit<}
use Rattle.std.specs.Prelude.{sum_by, IfSome}
use Rattle.std.proofs.lemmas.List.{append-nil, take_at, drop_at}
use Rattle.std.proofs.lemmas.List.Sums.{sum_by-append, sum_by-cons}
use Rattle.std.proofs.lemmas.Option.{same_Some}
use Rattle.std.specs.Io.KnownBytes.{prepend_known, IsAtEnd}
use Rattle.kk_rows.specs.Space.{Space}
use Rattle.kk_outside.specs.Change.{Change, change}
use Rattle.kk_outside.specs.Source.{SourceTold, AtEnd, Failed, Took, bytes_read, FillsFrom}
use Rattle.kk_outside.specs.declared.event.Event.{Event}
use Rattle.kk_outside.specs.declared.event.Event.TheVariants.{Datagram}
use Rattle.kk_outside.proofs.Known.{Took-nothing, Took-append, bytes_read-took, filled_short, ended_by_fill}
use Rattle.kk_code.specs.Ticket.{TicketFields}
use Rattle.kk_frame.specs.declared.frame.TheConstants.{FRAME_BYTES}
use Rattle.kk_frame.specs.declared.gate_count.GateCount.{GateCount}
use Rattle.kk_frame.specs.Capture.{capture_events}
use Rattle.kk_frame.specs.Events.{datagrams, stop, taken, counts}
use Rattle.kk_frame.specs.Intake.{IntakeState, IsAfter, is_running}
use Rattle.kk_frame.proofs.Captures.{capture-append, capture-first, capture-one, capture-length, data_frames-short}
use Rattle.kk_frame.proofs.Stops.{datagrams-append}
use Rattle.kk_frame.proofs.Intakes.{running_after, running_goes_on, ended_stops, taken-none, taken-push}
use Rattle.kk_run_unpack.specs.Spaces.{AreSpanned, HasTaken, AreReceived}
use Rattle.kk_run_unpack.specs.Unpack.{piece_limits, pieces, pieces_read, vectors_of, counts_of, read_length, EndsAtStop, IsBeforeStop, FailsBeforeStop, LeavesRemainder}

-- ---- how many bytes are read

read_length-of : (t : TicketFields) (most : ℕ) (bytes : List ℕ) (events : List Event) → pieces_read t most bytes ≡ events → read_length t most bytes ≡ sum_by length (datagrams events)
unfolding read_length
read_length-of t most bytes events is = ap (λ es. sum_by length (datagrams es)) is

-- all of some bytes, and nothing of what comes after them
read_length-all : (t : TicketFields) (most : ℕ) (bytes front : List ℕ) → pieces_read t most bytes ≡ pieces front → read_length t most bytes ≡ length front
read_length-all t most bytes front is = read_length-of t most bytes (pieces front) is ∙ capture-length FRAME_BYTES front (lit< tt)

-- ---- what was taken so far

-- Whole pieces were taken of the source, and the intake was given them.
pub record Received (t : TicketFields) (most : ℕ) (source : Change SourceTold) (intake : IntakeState) (spaces : List Space) : Type 0 where
  pub bytes : List ℕ
  pub took : Took bytes [] source
  pub count : ℕ
  pub whole : length bytes ≡ count * FRAME_BYTES
  pub limits : intake.limits ≡ piece_limits most
  pub taken : HasTaken t (pieces bytes) intake spaces

-- before the first piece
pub Received-start : (t : TicketFields) (most : ℕ) (now : SourceTold) (intake : IntakeState) (spaces : List Space) → ((u : TicketFields) → IsAfter u [] intake) → intake.limits ≡ piece_limits most → AreSpanned t spaces [] → Received t most (change now now) intake spaces
Received-start t most now intake spaces after limits spanned = record {
  bytes = [];
  took = Took-nothing now;
  count = 0;
  whole = refl;
  limits = limits;
  taken = record {
    after = after t;
    spanned = subst (AreSpanned t spaces) (sym (taken-none FRAME_BYTES t intake.limits)) spanned;
  };
}

-- k whole pieces, and others
pieces-append : (count : ℕ) (bytes more : List ℕ) → length bytes ≡ count * FRAME_BYTES → pieces (bytes ++ more) ≡ pieces bytes ++ pieces more
pieces-append count bytes more whole = capture-append FRAME_BYTES count bytes more (lit< tt) whole

-- after one piece more
pub Received-piece : (t : TicketFields) (most : ℕ) (start now end : SourceTold) (intake next : IntakeState) (spaces grown : List Space) (piece : List ℕ) → Received t most (change start now) intake spaces → Took piece [] (change now end) → length piece ≡ FRAME_BYTES → next.limits ≡ intake.limits → ((events : List Event) → HasTaken t events intake spaces → HasTaken t (events ++ Datagram piece ∷ []) next grown) → Received t most (change start end) next grown
Received-piece t most start now end intake next spaces grown piece received took whole limits step =
    let one : pieces piece ≡ Datagram piece ∷ [] = capture-one FRAME_BYTES piece (omega (arith, whole)) (omega (arith, whole)) in
    let more : pieces (received.bytes ++ piece) ≡ pieces received.bytes ++ Datagram piece ∷ [] = pieces-append received.count received.bytes piece received.whole ∙ ap (λ l. pieces received.bytes ++ l) one in
    record {
      bytes = received.bytes ++ piece;
      took = Took-append received.bytes piece [] start now end received.took took;
      count = received.count + 1;
      whole = omega (arith, length-append received.bytes piece, received.whole, whole);
      limits = limits ∙ received.limits;
      taken = subst (λ events. HasTaken t events next grown) (sym more) (step (pieces received.bytes) received.taken);
    }

-- ---- where the gate stops

-- what was taken of a source, by its intake
module _ (t : TicketFields) (most : ℕ) (intake : IntakeState) (bytes : List ℕ) (count : ℕ) (whole : length bytes ≡ count * FRAME_BYTES) (limits : intake.limits ≡ piece_limits most) (after : IsAfter t (pieces bytes) intake) where
  -- an intake that has ended stops there
  stops : is_running intake ≡ false → (more : List ℕ) → pieces_read t most (bytes ++ more) ≡ pieces bytes
  stops over more =
      ap (λ l. stop FRAME_BYTES t l (pieces (bytes ++ more))) (sym limits)
      ∙ ap (stop FRAME_BYTES t intake.limits) (pieces-append count bytes more whole)
      ∙ ended_stops t (pieces bytes) (pieces more) intake after over

  -- one that runs goes on to the next piece
  goes_on : is_running intake ≡ true → (part : List ℕ) → length part < FRAME_BYTES → IsBeforeStop t most (bytes ++ part)
  goes_on running part short = λ more some.
      let next = part ++ more in
      let first = take FRAME_BYTES next in
      let others = pieces (drop FRAME_BYTES next) in
      let many = length-append part more in
      let cut : pieces ((bytes ++ part) ++ more) ≡ pieces bytes ++ Datagram first ∷ others =
      ap pieces (append_assoc bytes part more) ∙ pieces-append count bytes next whole ∙ ap (λ l. pieces bytes ++ l) (capture-first FRAME_BYTES next (lit< tt) (omega (arith, many, some))) in
      let on = running_goes_on t (pieces bytes) (Datagram first) others intake after running in
      let read : pieces_read t most ((bytes ++ part) ++ more) ≡ pieces bytes ++ Datagram first ∷ on.0 =
      ap (λ l. stop FRAME_BYTES t l (pieces ((bytes ++ part) ++ more))) (sym limits) ∙ ap (stop FRAME_BYTES t intake.limits) cut ∙ on.1 in
      let long : read_length t most ((bytes ++ part) ++ more) ≡ length bytes + (length first + sum_by length (datagrams on.0)) =
      read_length-of t most ((bytes ++ part) ++ more) (pieces bytes ++ Datagram first ∷ on.0) read
      ∙ ap (sum_by length) (datagrams-append (pieces bytes) (Datagram first ∷ on.0))
      ∙ sum_by-append length (datagrams (pieces bytes)) (first ∷ datagrams on.0)
      ∙ ap (λ n. n + sum_by length (first ∷ datagrams on.0)) (capture-length FRAME_BYTES bytes (lit< tt))
      ∙ ap (λ n. length bytes + n) (sum_by-cons length first (datagrams on.0)) in
      omega (arith, long, length-append bytes part, length-take FRAME_BYTES next, many, some, short)

  -- less than a piece more is read, and gives nothing
  reads_part : is_running intake ≡ true → (part : List ℕ) → length part < FRAME_BYTES → (pieces_read t most (bytes ++ part) ≡ pieces (bytes ++ part)) × (vectors_of t most (bytes ++ part) ≡ taken FRAME_BYTES t intake.limits (pieces bytes))
  reads_part running [] short =
      let all : bytes ++ [] ≡ bytes = append-nil bytes in (
        ap (pieces_read t most) all ∙ ap (λ l. stop FRAME_BYTES t l (pieces bytes)) (sym limits) ∙ after.all ∙ sym (ap pieces all),
        ap (vectors_of t most) all ∙ ap (λ l. taken FRAME_BYTES t l (pieces bytes)) (sym limits),
      )
  reads_part running (b ∷ rest) short =
      let part = b ∷ rest in
      let one : pieces part ≡ Datagram part ∷ [] = capture-one FRAME_BYTES part (omega arith) (omega (arith, short)) in
      let more : pieces (bytes ++ part) ≡ pieces bytes ++ Datagram part ∷ [] = pieces-append count bytes part whole ∙ ap (λ l. pieces bytes ++ l) one in (
        ap (λ l. stop FRAME_BYTES t l (pieces (bytes ++ part))) (sym limits)
            ∙ ap (stop FRAME_BYTES t intake.limits) more
            ∙ (running_after t (pieces bytes) intake after running).next (Datagram part)
            ∙ sym more,
        ap (λ l. taken FRAME_BYTES t l (pieces (bytes ++ part))) (sym limits)
            ∙ ap (taken FRAME_BYTES t intake.limits) more
            ∙ taken-push t (pieces bytes) (Datagram part) intake after running
            ∙ ap (λ l. taken FRAME_BYTES t intake.limits (pieces bytes) ++ l) (data_frames-short FRAME_BYTES t part short)
            ∙ append-nil (taken FRAME_BYTES t intake.limits (pieces bytes)),
      )

-- ---- what is left of a source that tells it

remainder_at : (t : TicketFields) (most : ℕ) (all bytes left : List ℕ) → all ≡ bytes ++ left → read_length t most all ≡ length bytes → (take (read_length t most all) all ≡ bytes) × (drop (read_length t most all) all ≡ left)
remainder_at t most all bytes left is long = (
  ap (λ n. take n all) long ∙ ap (λ l. take (length bytes) l) is ∙ take_at bytes left (length bytes) refl,
  ap (λ n. drop n all) long ∙ ap (λ l. drop (length bytes) l) is ∙ drop_at bytes left (length bytes) refl,
)

-- the source after bytes up to the stop
remainder : (t : TicketFields) (most : ℕ) (bytes : List ℕ) (source : Change SourceTold) (old new : Option (List ℕ)) → source.new.left ≡ new → bytes_read source ≡ bytes → old ≡ prepend_known bytes new → pieces_read t most bytes ≡ pieces bytes → ((more : List ℕ) → new ≡ Some more → pieces_read t most (bytes ++ more) ≡ pieces bytes) → IfSome old (λ all. LeavesRemainder t most all source)
remainder t most bytes source None new now are left here at = tt
remainder t most bytes source (Some all) None now are left here at = absurd (cc left)
remainder t most bytes source (Some all) (Some more) now are left here at =
    let is : all ≡ bytes ++ more = same_Some _ _ left in
    let read : pieces_read t most all ≡ pieces bytes = ap (pieces_read t most) is ∙ at more refl in
    let split = remainder_at t most all bytes more is (read_length-all t most all bytes read) in
    record {
      taken = are ∙ sym split.0;
      left = now ∙ ap Some (sym split.1);
      same = ap (pieces_read t most) are ∙ here ∙ sym read;
    }

-- ---- what was received

-- the intake has ended
pub AreReceived-stop : (t : TicketFields) (most : ℕ) (source : Change SourceTold) (intake : IntakeState) (counted : GateCount) (spaces : List Space) → Received t most source intake spaces → is_running intake ≡ false → ((events : List Event) → IsAfter t events intake → counted ≡ counts FRAME_BYTES t intake.limits events) → AreReceived t most source counted spaces
AreReceived-stop t most source intake counted spaces received over counting =
    let bytes = received.bytes in
    let are : bytes_read source ≡ bytes = bytes_read-took bytes [] source received.took refl in
    let at = stops t most intake bytes received.count received.whole received.limits received.taken.after over in
    let here : pieces_read t most bytes ≡ pieces bytes = ap (pieces_read t most) (sym (append-nil bytes)) ∙ at [] in
    record {
      read = record {
        last = [];
        took = subst (λ l. Took l [] source) (sym are) received.took;
        ended = subst (EndsAtStop t most) (sym are) (λ more. read_length-all t most (bytes ++ more) bytes (at more));
      };
      left = remainder t most bytes source source.old.left source.new.left refl are received.took.left here (λ more _. at more);
      counts =
          counting (pieces bytes) received.taken.after
          ∙ ap (λ l. counts FRAME_BYTES t l (pieces bytes)) received.limits
          ∙ sym (ap (counts_of t most) are);
      spanned = subst (AreSpanned t spaces) (ap (λ l. taken FRAME_BYTES t l (pieces bytes)) received.limits ∙ sym (ap (vectors_of t most) are)) received.taken.spanned;
    }

-- a fill left room, since the source was at its end
pub AreReceived-end : {E : Type 0} (t : TicketFields) (most : ℕ) (start now end : SourceTold) (intake : IntakeState) (counted : GateCount) (spaces : List Space) (n : ℕ) (buf : List ℕ) → Received t most (change start now) intake spaces → is_running intake ≡ true → FillsFrom {E = E} (change now end) (Ok n) buf → length buf ≡ FRAME_BYTES → n < FRAME_BYTES → ((events : List Event) → IsAfter t events intake → counted ≡ counts FRAME_BYTES t intake.limits (events ++ capture_events FRAME_BYTES (take n buf))) → AreReceived t most (change start end) counted spaces
AreReceived-end t most start now end intake counted spaces n buf received running fills size few counting =
    let part = take n buf in
    let source = change start end in
    let all = received.bytes ++ part in
    let room : n < length buf = omega (arith, size, few) in
    let short : length part < FRAME_BYTES = omega (arith, length-take n buf, few) in
    let took : Took all (AtEnd ∷ []) source = Took-append received.bytes part (AtEnd ∷ []) start now end received.took (filled_short (change now end) n buf fills room) in
    let are : bytes_read source ≡ all = bytes_read-took all (AtEnd ∷ []) source took refl in
    let at_end : IsAtEnd end.left = ended_by_fill (change now end) n buf fills room in
    let after = received.taken.after in
    let before = goes_on t most intake received.bytes received.count received.whole received.limits after running part short in
    let read = reads_part t most intake received.bytes received.count received.whole received.limits after running part short in
    record {
      read = record {
        last = AtEnd ∷ [];
        took = subst (λ l. Took l (AtEnd ∷ []) source) (sym are) took;
        ended = subst (IsBeforeStop t most) (sym are) before;
      };
      left = remainder t most all source source.old.left source.new.left refl are took.left read.0
          (λ more is.
          let none : more ≡ [] = subst IsAtEnd is at_end in
          ap (λ l. pieces_read t most (all ++ l)) none ∙ ap (pieces_read t most) (append-nil all) ∙ read.0);
      counts =
          counting (pieces received.bytes) after
          ∙ ap (counts FRAME_BYTES t intake.limits) (sym (pieces-append received.count received.bytes part received.whole))
          ∙ ap (λ l. counts FRAME_BYTES t l (pieces all)) received.limits
          ∙ sym (ap (counts_of t most) are);
      spanned = subst (AreSpanned t spaces) (sym (ap (vectors_of t most) are ∙ read.1)) received.taken.spanned;
    }

-- a fill failed
pub FailsBeforeStop-fill : {E : Type 0} (t : TicketFields) (most : ℕ) (start now end : SourceTold) (intake : IntakeState) (spaces : List Space) (e : E) (buf : List ℕ) → Received t most (change start now) intake spaces → is_running intake ≡ true → FillsFrom {E = E} (change now end) (Err e) buf → length buf ≡ FRAME_BYTES → FailsBeforeStop t most (change start end)
FailsBeforeStop-fill t most start now end intake spaces e buf received running fills size =
    let part = fills.lost.0 in
    let source = change start end in
    let all = received.bytes ++ part in
    let took : Took all (Failed ∷ []) source = Took-append received.bytes part (Failed ∷ []) start now end received.took fills.lost.2 in
    let are : bytes_read source ≡ all = bytes_read-took all (Failed ∷ []) source took refl in
    let before = goes_on t most intake received.bytes received.count received.whole received.limits received.taken.after running part (omega (arith, fills.lost.1, size)) in
    record {
      took = subst (λ l. Took l (Failed ∷ []) source) (sym are) took;
      before = subst (IsBeforeStop t most) (sym are) before;
    }
