-- What a whole run of a relay comes to.
use Rattle.std.proofs.Common.{◌≡◌, ℕ, ◌+◌, ◌*◌, ◌≤◌, true, false, List, [], ◌∷◌, ◌++◌, length, take, Option, Some, None, inl, inr, refl, ap, sym, subst, ◌∙◌, arith, append_assoc, length-append, Bool}
use Rattle.std.specs.Prelude.{IfSome, MatchOption, is_some, flat_map, unwrap_or}
use Rattle.std.proofs.Math.Nat.{mul-le-mul_right}
use Rattle.std.proofs.lemmas.Bool.{false≢true}
use Rattle.std.proofs.lemmas.Grind.{flat_map-append}
use Rattle.std.proofs.lemmas.List.{append-nil, take-append-le, take_at}
use Rattle.std.proofs.lemmas.Option.{same_Some}
use Rattle.rand_core.specs.Stream.{Stream}
use Rattle.kk_outside.specs.Change.{Change, change}
use Rattle.kk_outside.specs.declared.event.Event.{Event}
use Rattle.kk_outside.specs.Gate.{GateTold, prepend_events, events_told}
use Rattle.kk_outside.specs.Outlet.{OutletTold, Send, Failed, IsCutShort, append_datagrams, append_failing}
use Rattle.kk_outside.proofs.Taken.{append_datagrams-append}
use Rattle.kk_code.specs.Ticket.{TicketFields}
use Rattle.kk_frame.specs.declared.datagram.TheConstants.{MAX_DATAGRAM_FRAMES}
use Rattle.kk_frame.specs.declared.frame.TheConstants.{FRAME_BYTES}
use Rattle.kk_frame.specs.declared.gate_count.Ended.{Ended}
use Rattle.kk_frame.specs.declared.gate_count.Ended.TheVariants.{Idle, Most, Fault, Over}
use Rattle.kk_frame.specs.declared.gate_count.Ended.TheVariants as ended
use Rattle.kk_frame.specs.declared.gate_count.GateCount.{GateCount}
use Rattle.kk_frame.specs.declared.limits.Limits.{Limits}
use Rattle.kk_frame.specs.Asking.{HasAsked}
use Rattle.kk_frame.specs.Datagram.{readings, data_frames}
use Rattle.kk_frame.specs.Events.{datagrams, all_readings, end_with, stop, taken, counts, ended_by_fault}
use Rattle.kk_frame.specs.Frame.{End, frame_text}
use Rattle.kk_frame.specs.Intake.{IntakeState, IsIntake, IsAfter, is_running}
use Rattle.kk_frame.proofs.Asks.{HasAsked-start, taken_is, counts_is, asks, stops_there}
use Rattle.kk_frame.proofs.Intakes.{running_goes_on}
use Rattle.kk_frame.proofs.Readings.{data_frames-append}
use Rattle.kk_frame.proofs.Stops.{datagrams-append}
use Rattle.kk_relay.specs.Progress.{AreCut, HasRelayed, BreaksOff, LacksEnd, EndsShort}
use Rattle.kk_relay.specs.RelayState.{BasisState, relay_after}
use Rattle.kk_relay.specs.Relaying.{relayed, sent_after, datagrams_of, last_datagrams, relay_list}
use Rattle.kk_outside.specs.Generator.{after_words, word_at}
use Rattle.kk_relay.proofs.Relays.{relayed-append, sent_after-nil}
use Rattle.kk_relay.proofs.Sends.{AreSent-nothing, AreSent-same, length-datagrams_of, datagrams_of-append}
use Rattle.kk_relay.proofs.Steps.{relayed-few}

-- ---- events

all_frames : (t : TicketFields) (a b : List Event) → data_frames (all_readings FRAME_BYTES t (a ++ b)) ≡ data_frames (all_readings FRAME_BYTES t a) ++ data_frames (all_readings FRAME_BYTES t b)
all_frames t a b =
    ap (λ ds. data_frames (flat_map (readings FRAME_BYTES t) ds)) (datagrams-append a b)
    ∙ ap data_frames (flat_map-append (readings FRAME_BYTES t) (datagrams a) (datagrams b))
    ∙ data_frames-append (all_readings FRAME_BYTES t a) (all_readings FRAME_BYTES t b)

-- the stop of these events and more goes on from them
goes_on : (t : TicketFields) (limits : Limits) (events more : List Event) (intake : IntakeState) → intake.limits ≡ limits → IsAfter t events intake → is_running intake ≡ true → (after : List Event) × (stop FRAME_BYTES t limits (events ++ more) ≡ events ++ after)
goes_on t limits events [] intake is after running =
    ([], ap (stop FRAME_BYTES t limits) (append-nil events) ∙ ap (λ l. stop FRAME_BYTES t l events) (sym is) ∙ after.all ∙ sym (append-nil events))
goes_on t limits events (next ∷ more) intake is after running =
    let on = running_goes_on t events next more intake after running in
    (next ∷ on.0, ap (λ l. stop FRAME_BYTES t l (events ++ next ∷ more)) (sym is) ∙ on.1)

-- ---- a run

-- A run so far: the events that the gate told, the data frames of them, and what was sent for these.
pub record Run (t : TicketFields) (limits : Limits) (rate : ℕ) (start : Stream) (gate : Change GateTold) (outlet : Change OutletTold) (intake : IntakeState) (relay : List BasisState) (words : Stream) (sent : ℕ) : Type 0 where
  pub events : List Event
  pub frames : List (ℕ × ℕ)
  pub is : intake.limits ≡ limits
  pub asked : HasAsked t gate events frames intake
  pub progress : HasRelayed t rate start frames outlet relay words
  pub count : sent ≡ length (relayed rate (word_at start) frames)
  pub same : outlet.new.faults ≡ outlet.old.faults

sent-none : (rate : ℕ) (word : ℕ → ℕ) → relayed rate word [] ≡ []
sent-none rate word = sent_after-nil rate word 0 []

pub Run-start : (t : TicketFields) (limits : Limits) (rate : ℕ) (start : Stream) (gate : GateTold) (outlet : OutletTold) (intake : IntakeState) (relay : List BasisState) → intake.limits ≡ limits → ((u : TicketFields) → IsAfter u [] intake) → is_running intake ≡ true → relay ≡ relay_after t [] → Run t limits rate start (change gate gate) (change outlet outlet) intake relay start 0
Run-start t limits rate start gate outlet intake relay is after running none = record {
  events = [];
  frames = [];
  is = is;
  asked = HasAsked-start t gate intake after running;
  progress = record {
    holds = none;
    sent = AreSent-same t start 0 [] (relayed rate (word_at start) []) (change outlet outlet) start (sym (sent-none rate (word_at start))) (AreSent-nothing t start 0 outlet start refl);
  };
  count = sym (ap length (sent-none rate (word_at start)));
  same = refl;
}

-- the next event, and what is sent for its data frames
pub Run-next : (t : TicketFields) (limits : Limits) (rate : ℕ) (start : Stream) (origin gate : GateTold) (first outlet : OutletTold) (old new : IntakeState) (relay next : List BasisState) (words later : Stream) (sent more : ℕ) (middle : Change GateTold) (before : Change OutletTold) (batch : List (ℕ × ℕ)) → (run : Run t limits rate start middle before old relay words sent) → (events : List Event) → HasAsked t (change origin gate) (run.events ++ events) (run.frames ++ batch) new → new.limits ≡ old.limits → HasRelayed t rate start (run.frames ++ batch) (change first outlet) next later → length (relayed rate (word_at start) (run.frames ++ batch)) ≡ length (relayed rate (word_at start) run.frames) + more → outlet.faults ≡ first.faults → Run t limits rate start (change origin gate) (change first outlet) new next later (sent + more)
Run-next t limits rate start origin gate first outlet old new relay next words later sent more middle before batch run events asked limits_are progress count same = record {
  events = run.events ++ events;
  frames = run.frames ++ batch;
  is = limits_are ∙ run.is;
  asked = asked;
  progress = progress;
  count = omega (arith, run.count, count);
  same = same;
}

-- while it runs few combinations were sent
pub Run-few : (t : TicketFields) (limits : Limits) (rate : ℕ) (start : Stream) (gate : Change GateTold) (outlet : Change OutletTold) (intake : IntakeState) (relay : List BasisState) (words : Stream) (sent : ℕ) → Run t limits rate start gate outlet intake relay words sent → IsIntake intake → is_running intake ≡ true → rate ≤ 16 → sent ≤ 16 * (MAX_DATAGRAM_FRAMES * limits.most)
Run-few t limits rate start gate outlet intake relay words sent run intake_is running small =
    let n = length run.frames in
    let counted : n ≡ intake.counts.frames = sym (ap length run.asked.frames_are) ∙ sym (ap (λ (c : GateCount). c.frames) (run.asked.running running).counts) in
    let most : intake.limits.most ≡ limits.most = ap (λ (l : Limits). l.most) run.is in
    let few : n ≤ MAX_DATAGRAM_FRAMES * limits.most = omega (arith, counted, most, intake_is.frames, intake_is.datagrams) in
    let each : rate * n ≤ 16 * n = mul-le-mul_right n small in
    omega (arith, run.count, relayed-few rate (word_at start) run.frames, each, few)

-- ---- what was sent

-- the list of a gate that has ended
module _ (t : TicketFields) (limits : Limits) (rate : ℕ) (start : Stream) (gate : Change GateTold) (outlet : Change OutletTold) (intake : IntakeState) (relay : List BasisState) (words : Stream) (sent : ℕ) (run : Run t limits rate start gate outlet intake relay words sent) (over : is_running intake ≡ false) where
  pub list_is : relay_list t limits rate (word_at start) (events_told gate) ≡ datagrams_of t (relayed rate (word_at start) run.frames) ++ last_datagrams t intake.counts.ended
  list_is =
      ap (λ (l : List (ℕ × ℕ)). datagrams_of t (relayed rate (word_at start) l) ++ last_datagrams t (counts FRAME_BYTES t limits (events_told gate)).ended) (taken_is t limits gate run.events run.frames intake run.is run.asked)
      ∙ ap (λ (c : GateCount). datagrams_of t (relayed rate (word_at start) run.frames) ++ last_datagrams t c.ended) (sym (counts_is t limits gate run.events run.frames intake run.is run.asked over))

  pub list_failed : ended_by_fault intake.counts.ended ≡ true → outlet.new.sends ≡ append_datagrams outlet.old.sends (relay_list t limits rate (word_at start) (events_told gate))
  list_failed failed =
      let none : last_datagrams t intake.counts.ended ≡ [] = rw failed refl in
      run.progress.sent.sent
      ∙ ap (append_datagrams outlet.old.sends)
      (sym (append-nil (datagrams_of t (relayed rate (word_at start) run.frames)))
      ∙ ap (λ (l : List (List ℕ)). datagrams_of t (relayed rate (word_at start) run.frames) ++ l) (sym none)
      ∙ sym list_is)

  list_ended : ended_by_fault intake.counts.ended ≡ false → relay_list t limits rate (word_at start) (events_told gate) ≡ datagrams_of t (relayed rate (word_at start) run.frames) ++ frame_text t End ∷ []
  list_ended well =
      let one : last_datagrams t intake.counts.ended ≡ frame_text t End ∷ [] = rw well refl in
      list_is ∙ ap (λ (l : List (List ℕ)). datagrams_of t (relayed rate (word_at start) run.frames) ++ l) one

  -- END was sent too
  pub list_sent : (end : OutletTold) → ended_by_fault intake.counts.ended ≡ false → end.sends ≡ append_datagrams outlet.new.sends (frame_text t End ∷ []) → end.sends ≡ append_datagrams outlet.old.sends (relay_list t limits rate (word_at start) (events_told gate))
  list_sent end well last =
      last
      ∙ ap (λ o. append_datagrams o (frame_text t End ∷ [])) run.progress.sent.sent
      ∙ append_datagrams-append outlet.old.sends (datagrams_of t (relayed rate (word_at start) run.frames)) (frame_text t End ∷ [])
      ∙ ap (append_datagrams outlet.old.sends) (sym (list_ended well))

  -- the send of END failed
  pub list_without_end : (end : OutletTold) → ended_by_fault intake.counts.ended ≡ false → end.sends ≡ outlet.new.sends ++ Failed ∷ [] → IsCutShort (change outlet.old end) (relay_list t limits rate (word_at start) (events_told gate))
  list_without_end end well failed =
      let front = datagrams_of t (relayed rate (word_at start) run.frames) in
      record {
        number = length front;
        few = omega (arith, ap length (list_ended well), length-append front (frame_text t End ∷ []));
        sent =
            failed ∙ ap (λ (l : List Send). l ++ Failed ∷ []) run.progress.sent.sent
            ∙ ap (append_failing outlet.old.sends) (sym (ap (take (length front)) (list_ended well) ∙ take_at front (frame_text t End ∷ []) (length front) refl));
      }

  pub lacks_end : (end : OutletTold) → end.sends ≡ outlet.new.sends ++ Failed ∷ [] → EndsShort t rate start (taken FRAME_BYTES t limits (events_told gate)) (change outlet.old end) relay words
  lacks_end end failed =
      let lacks : LacksEnd t rate start run.frames (change outlet.old end) relay words = record {
        holds = run.progress.holds;
        sent = failed ∙ ap (λ (l : List Send). l ++ Failed ∷ []) run.progress.sent.sent;
        drawn = run.progress.sent.drawn ∙ ap (λ (n : ℕ). after_words n start) (omega arith);
      } in
      inr (subst (λ l. LacksEnd t rate start l (change outlet.old end) relay words) (sym (taken_is t limits gate run.events run.frames intake run.is run.asked)) lacks)

-- the list of all events that a gate had left, where these are told up to the stop
list_same : (t : TicketFields) (limits : Limits) (rate : ℕ) (word : ℕ → ℕ) (all told : List Event) → stop FRAME_BYTES t limits all ≡ told → stop FRAME_BYTES t limits told ≡ told → relay_list t limits rate word all ≡ relay_list t limits rate word told
list_same t limits rate word all told is whole =
    ap (λ prefix. datagrams_of t (relayed rate word (data_frames (all_readings FRAME_BYTES t prefix))) ++ last_datagrams t (Some (unwrap_or (end_with FRAME_BYTES t limits prefix) Over))) (is ∙ sym whole)

cut_same : (outlet : Change OutletTold) (t : TicketFields) (limits : Limits) (rate : ℕ) (word : ℕ → ℕ) (told : List Event) (left : Option (List Event)) → IsCutShort outlet (relay_list t limits rate word told) → stop FRAME_BYTES t limits told ≡ told → IfSome left (λ all. stop FRAME_BYTES t limits all ≡ told) → IfSome left (λ all. IsCutShort outlet (relay_list t limits rate word all))
cut_same outlet t limits rate word told None cut whole is = tt
cut_same outlet t limits rate word told (Some all) cut whole is = subst (IsCutShort outlet) (sym (list_same t limits rate word all told is whole)) cut

-- the send of END failed: less than the list of all events that the gate had left was sent
pub without_end_of_all : (t : TicketFields) (limits : Limits) (rate : ℕ) (start : Stream) (gate : Change GateTold) (outlet : Change OutletTold) (intake : IntakeState) (relay : List BasisState) (words : Stream) (sent : ℕ) (end : OutletTold) → Run t limits rate start gate outlet intake relay words sent → is_running intake ≡ false → ended_by_fault intake.counts.ended ≡ false → end.sends ≡ outlet.new.sends ++ Failed ∷ [] → IfSome gate.old.left (λ all. IsCutShort (change outlet.old end) (relay_list t limits rate (word_at start) all))
without_end_of_all t limits rate start gate outlet intake relay words sent end run over well failed =
    cut_same (change outlet.old end) t limits rate (word_at start) (events_told gate) gate.old.left
    (list_without_end t limits rate start gate outlet intake relay words sent run over end well failed)
    (asks t limits gate run.events run.frames intake run.is run.asked).no_further
    (stops_there t limits gate run.events run.frames intake run.is run.asked over).stop_is

-- ---- a send of what is sent for data frames failed

cut_of : (t : TicketFields) (rate : ℕ) (start : Stream) (n : ℕ) (frames more : List (ℕ × ℕ)) (rest : List (List ℕ)) (outlet : Change OutletTold) (words : Stream) → AreCut t start 0 n (relayed rate (word_at start) frames) outlet words → IsCutShort outlet (datagrams_of t (relayed rate (word_at start) (frames ++ more)) ++ rest)
cut_of t rate start n frames more rest outlet words cut =
    let sent = relayed rate (word_at start) frames in
    let others = sent_after rate (word_at start) (length sent) frames more in
    let parts : datagrams_of t (relayed rate (word_at start) (frames ++ more)) ≡ datagrams_of t sent ++ datagrams_of t others = ap (datagrams_of t) (relayed-append rate (word_at start) frames more) ∙ datagrams_of-append t sent others in
    let count = length-datagrams_of t sent in
    let whole : datagrams_of t (relayed rate (word_at start) (frames ++ more)) ++ rest ≡ datagrams_of t sent ++ (datagrams_of t others ++ rest) = ap (λ (l : List (List ℕ)). l ++ rest) parts ∙ append_assoc (datagrams_of t sent) (datagrams_of t others) rest in
    record {
      number = n;
      few = omega (arith, cut.few, count, ap length whole, length-append (datagrams_of t sent) (datagrams_of t others ++ rest));
      sent = cut.sent ∙ ap (append_failing outlet.old.sends) (sym (ap (take n) whole ∙ take-append-le n (datagrams_of t sent) (datagrams_of t others ++ rest) (omega (arith, cut.few, count))));
    }

stop_on : (t : TicketFields) (limits : Limits) (events : List Event) (intake : IntakeState) (running : Bool) → is_running intake ≡ running → intake.limits ≡ limits → (is_running intake ≡ true → IsAfter t events intake) → (all more : List Event) → all ≡ events ++ more → (is_running intake ≡ false → stop FRAME_BYTES t limits (events ++ more) ≡ events) → (after : List Event) × (stop FRAME_BYTES t limits all ≡ events ++ after)
stop_on t limits events intake true running is after all more left whole =
    let on = goes_on t limits events more intake is (after running) running in
    (on.0, ap (stop FRAME_BYTES t limits) left ∙ on.1)
stop_on t limits events intake false over is after all more left whole =
    ([], ap (stop FRAME_BYTES t limits) left ∙ whole over ∙ sym (append-nil events))

cut_all : (t : TicketFields) (limits : Limits) (rate : ℕ) (start : Stream) (n : ℕ) (outlet : Change OutletTold) (words : Stream) (events : List Event) (frames : List (ℕ × ℕ)) (intake : IntakeState) (old new : Option (List Event)) → intake.limits ≡ limits → (is_running intake ≡ true → IsAfter t events intake) → (is_running intake ≡ false → IfSome new (λ more. stop FRAME_BYTES t limits (events ++ more) ≡ events)) → data_frames (all_readings FRAME_BYTES t events) ≡ frames → old ≡ prepend_events events new → AreCut t start 0 n (relayed rate (word_at start) frames) outlet words → IfSome old (λ all. IsCutShort outlet (relay_list t limits rate (word_at start) all))
cut_all t limits rate start n outlet words events frames intake None new is after whole are left cut = tt
cut_all t limits rate start n outlet words events frames intake (Some all) None is after whole are left cut = absurd (cc left)
cut_all t limits rate start n outlet words events frames intake (Some all) (Some more) is after whole are left cut =
    let on = stop_on t limits events intake (is_running intake) refl is after all more (same_Some _ _ left) whole in
    let taken_all : taken FRAME_BYTES t limits all ≡ frames ++ data_frames (all_readings FRAME_BYTES t on.0) =
    ap (λ prefix. data_frames (all_readings FRAME_BYTES t prefix)) on.1
    ∙ all_frames t events on.0
    ∙ ap (λ (l : List (ℕ × ℕ)). l ++ data_frames (all_readings FRAME_BYTES t on.0)) are in
    let last = last_datagrams t (counts FRAME_BYTES t limits all).ended in
    subst (λ (l : List (ℕ × ℕ)). IsCutShort outlet (datagrams_of t (relayed rate (word_at start) l) ++ last)) (sym taken_all)
    (cut_of t rate start n frames (data_frames (all_readings FRAME_BYTES t on.0)) last outlet words cut)

module _ (t : TicketFields) (limits : Limits) (rate : ℕ) (start : Stream) (gate : Change GateTold) (outlet : Change OutletTold) (events : List Event) (frames : List (ℕ × ℕ)) (intake : IntakeState) (relay : List BasisState) (words : Stream) (is : intake.limits ≡ limits) (asked : HasAsked t gate events frames intake) (off : BreaksOff t rate start frames outlet relay words) where
  pub cut_told : IsCutShort outlet (relay_list t limits rate (word_at start) (events_told gate))
  cut_told =
      let last = last_datagrams t (counts FRAME_BYTES t limits (events_told gate)).ended in
      let are : frames ++ [] ≡ taken FRAME_BYTES t limits (events_told gate) = append-nil frames ∙ sym (taken_is t limits gate events frames intake is asked) in
      subst (λ (l : List (ℕ × ℕ)). IsCutShort outlet (datagrams_of t (relayed rate (word_at start) l) ++ last)) are
      (cut_of t rate start off.number frames [] last outlet words off.cut)

  pub cut_of_all : IfSome gate.old.left (λ all. IsCutShort outlet (relay_list t limits rate (word_at start) all))
  cut_of_all =
      let are : data_frames (all_readings FRAME_BYTES t events) ≡ frames = ap (λ prefix. data_frames (all_readings FRAME_BYTES t prefix)) (sym asked.all) ∙ asked.frames_are in
      cut_all t limits rate start off.number outlet words events frames intake gate.old.left gate.new.left is asked.running
      (λ over. subst (λ l. IfSome gate.new.left (λ more. stop FRAME_BYTES t l (events ++ more) ≡ events)) is (asked.whole over)) are asked.took.left off.cut

  pub ends_short : EndsShort t rate start (taken FRAME_BYTES t limits (events_told gate)) outlet relay words
  ends_short = inl (subst (λ l. BreaksOff t rate start l outlet relay words) (sym (taken_is t limits gate events frames intake is asked)) off)

-- ---- causes

pub failure_is : (o : Option Ended) → ended_by_fault o ≡ true → o ≡ Some Fault
failure_is None h = absurd (false≢true h)
failure_is (Some ended.End) h = absurd (false≢true h)
failure_is (Some Idle) h = absurd (false≢true h)
failure_is (Some Most) h = absurd (false≢true h)
failure_is (Some Fault) h = refl
failure_is (Some Over) h = absurd (false≢true h)

pub no_failure : (o : Option Ended) → ended_by_fault o ≡ false → o ≡ Some Fault → ⊥
no_failure o h is = false≢true (sym h ∙ ap ended_by_fault is)

-- what holds of an event that was a datagram
pub of_datagram : {A : Type 0} (P : Type 0) (o : Option A) → is_some o ≡ true → IfSome o (λ _. P) → P
of_datagram P None some h = absurd (false≢true some)
of_datagram P (Some x) some h = h

-- what a test for a fault answers of how a gate ended
pub fault_told : (o : Option Ended) (answer : Bool) → MatchOption o (answer ≡ false) (λ ended_so. answer ≡ ended_by_fault (Some ended_so)) → ended_by_fault o ≡ answer
fault_told None answer is = sym is
fault_told (Some ended_so) answer is = sym is
