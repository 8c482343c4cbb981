-- A gate that an intake asks for its events, once and up to its stop.
use Rattle.std.proofs.Common.{◌≡◌, ℕ, Bool, cond, ◌+◌, ◌≤◌, arith, true, false, List, [], ◌∷◌, ◌++◌, Option, Some, None, refl, ap, sym, subst, ◌∙◌}
use Rattle.std.specs.Prelude.{is_none, IfSome}
use Rattle.std.proofs.lemmas.Bool.{false≢true}
use Rattle.std.proofs.lemmas.List.{append-nil}
use Rattle.std.proofs.lemmas.Option.{same_Some}
use Rattle.kk_outside.specs.Causes.{Rose, RoseWhere}
use Rattle.kk_outside.specs.Change.{Change, change}
use Rattle.kk_outside.specs.declared.event.Event.{Event}
use Rattle.kk_outside.specs.Gate.{GateTold, TookEvents, IsOver, prepend_events, events_told}
use Rattle.kk_outside.proofs.Taken.{TookEvents-append, TookEvents-nothing, events_told-took}
use Rattle.kk_code.specs.Ticket.{TicketFields}
use Rattle.kk_frame.specs.declared.frame.TheConstants.{FRAME_BYTES}
use Rattle.kk_frame.specs.declared.gate_count.Ended.{Ended}
use Rattle.kk_frame.specs.declared.gate_count.Ended.TheVariants as ended
use Rattle.kk_frame.specs.declared.gate_count.GateCount.{GateCount}
use Rattle.kk_frame.specs.declared.limits.Limits.{Limits}
use Rattle.kk_frame.specs.Events.{end_with, stop, taken, counts, overs_to}
use Rattle.kk_frame.specs.Intake.{IntakeState, IsAfter, is_running}
use Rattle.kk_frame.proofs.Intakes.{ended_tells, ended_stops, taken-none}
use Rattle.kk_frame.specs.Asking.{FaultCause, HasAsked, AsksUpToStop, StopsThere}

not_failed : (o : Option Ended) → is_none o ≡ true → o ≡ Some ended.Fault → ⊥
not_failed None h is = cc
not_failed (Some e) h is = false≢true h

-- a gate that goes on has not answered that its events are over
no_overs : (o : Option Ended) → is_none o ≡ true → overs_to o ≡ 0
no_overs None h = refl
no_overs (Some e) h = absurd (false≢true h)

overs_if : (a b c d : Bool) → overs_to (cond a (Some ended.End) (cond b (Some ended.Most) (cond c (Some ended.Idle) (cond d (Some ended.Fault) None)))) ≡ 0
overs_if true b c d = refl
overs_if false true c d = refl
overs_if false false true d = refl
overs_if false false false true = refl
overs_if false false false false = refl

-- nor has one that ended with an event
overs_at_event : (t : TicketFields) (limits : Limits) (events : List Event) → overs_to (end_with FRAME_BYTES t limits events) ≡ 0
unfolding end_with
overs_at_event t limits events = overs_if _ _ _ _

every : {A : Type 0} (P : A → Type 0) (o : Option A) → ((x : A) → P x) → IfSome o P
every P None h = tt
every P (Some x) h = h x

-- before any call
pub HasAsked-start : (t : TicketFields) (now : GateTold) (intake : IntakeState) → ((u : TicketFields) → IsAfter u [] intake) → is_running intake ≡ true → HasAsked t (change now now) [] [] intake
HasAsked-start t now intake after running = record {
  took = TookEvents-nothing now;
  all = (after t).all;
  frames_are = taken-none FRAME_BYTES t intake.limits;
  running = λ _. after t;
  counts_are = λ over. absurd (false≢true (sym over ∙ running));
  whole = λ over. absurd (false≢true (sym over ∙ running));
  cause = record {
    rose = λ is. absurd (not_failed intake.counts.ended running is);
    kept = λ _. refl;
    over = omega (arith, no_overs intake.counts.ended running);
  };
}

-- why it ended, over the calls before and one more
FaultCause-more : (origin now end : GateTold) (old new : IntakeState) → is_running old ≡ true → FaultCause (change origin now) old.counts → FaultCause (change now end) new.counts → FaultCause (change origin end) new.counts
FaultCause-more origin now end old new running before one =
    let same : now.faults ≡ origin.faults = before.kept (not_failed old.counts.ended running) in
    record {
      rose = λ is. subst (λ (n : ℕ). Rose n end.faults) same (one.rose is);
      kept = λ no. one.kept no ∙ same;
      over = omega (arith, one.over, before.over, no_overs old.counts.ended running);
    }

-- the events of one more call are those that it told
HasAsked-told : (t : TicketFields) (origin now end : GateTold) (events one : List Event) (frames : List (ℕ × ℕ)) (new : IntakeState) → TookEvents one (change now end) → HasAsked t (change origin end) (events ++ one) frames new → HasAsked t (change origin end) (events ++ events_told (change now end)) frames new
HasAsked-told t origin now end events one frames new took asked =
    subst (λ (l : List Event). HasAsked t (change origin end) (events ++ l) frames new) (sym (events_told-took one (change now end) took)) asked

-- an event
pub HasAsked-event : (t : TicketFields) (origin now end : GateTold) (events : List Event) (frames more : List (ℕ × ℕ)) (event : Event) (old new : IntakeState) → HasAsked t (change origin now) events frames old → is_running old ≡ true → TookEvents (event ∷ []) (change now end) → end.overs ≡ now.overs → (IsAfter t events old → IsAfter t (events ++ event ∷ []) new) → (IsAfter t events old → taken FRAME_BYTES t old.limits (events ++ event ∷ []) ≡ taken FRAME_BYTES t old.limits events ++ more) → new.limits ≡ old.limits → RoseWhere (new.counts.ended ≡ Some ended.Fault) now.faults end.faults → HasAsked t (change origin end) (events ++ events_told (change now end)) (frames ++ more) new
HasAsked-event t origin now end events frames more event old new asked running took overs after taking limits cause =
    let next = after (asked.running running) in
    HasAsked-told t origin now end events (event ∷ []) (frames ++ more) new took (record {
      took = TookEvents-append events (event ∷ []) origin now end asked.took took;
      all = next.all;
      frames_are =
          ap (λ l. taken FRAME_BYTES t l (events ++ event ∷ [])) limits
          ∙ taking (asked.running running)
          ∙ ap (λ (l : List (ℕ × ℕ)). l ++ more) asked.frames_are;
      running = λ _. next;
      counts_are = λ over. ended_tells t (events ++ event ∷ []) new next over;
      whole = λ over. every (λ l. stop FRAME_BYTES t new.limits ((events ++ event ∷ []) ++ l) ≡ events ++ event ∷ []) end.left (λ l. ended_stops t (events ++ event ∷ []) l new next over);
      cause = FaultCause-more origin now end old new running asked.cause (record {
        rose = cause.rose;
        kept = cause.kept;
        over = omega (arith, overs, ap (λ (c : GateCount). overs_to c.ended) next.counts, overs_at_event t new.limits (stop FRAME_BYTES t new.limits (events ++ event ∷ [])));
      });
    })

over_there : (t : TicketFields) (limits : Limits) (events : List Event) (left : Option (List Event)) → stop FRAME_BYTES t limits events ≡ events → IsOver left → IfSome left (λ more. stop FRAME_BYTES t limits (events ++ more) ≡ events)
over_there t limits events None all over = tt
over_there t limits events (Some more) all over = ap (λ (l : List Event). stop FRAME_BYTES t limits (events ++ l)) over ∙ ap (stop FRAME_BYTES t limits) (append-nil events) ∙ all

-- no more events
pub HasAsked-over : (t : TicketFields) (origin now end : GateTold) (events : List Event) (frames : List (ℕ × ℕ)) (old new : IntakeState) → HasAsked t (change origin now) events frames old → is_running old ≡ true → TookEvents [] (change now end) → end.overs ≡ now.overs + 1 → IsOver end.left → (IsAfter t events old → new.counts ≡ counts FRAME_BYTES t old.limits events) → new.counts.ended ≡ Some ended.Over → new.limits ≡ old.limits → end.faults ≡ now.faults → HasAsked t (change origin end) (events ++ events_told (change now end)) (frames ++ []) new
HasAsked-over t origin now end events frames old new asked running took overs over counting is limits faults =
    let ended_now : is_running new ≡ false = ap is_none is in
    let all : stop FRAME_BYTES t new.limits (events ++ []) ≡ events ++ [] = ap (λ l. stop FRAME_BYTES t l (events ++ [])) limits ∙ ap (stop FRAME_BYTES t old.limits) (append-nil events) ∙ asked.all ∙ sym (append-nil events) in
    HasAsked-told t origin now end events [] (frames ++ []) new took (record {
      took = TookEvents-append events [] origin now end asked.took took;
      all = all;
      frames_are =
          ap (λ l. taken FRAME_BYTES t l (events ++ [])) limits
          ∙ ap (taken FRAME_BYTES t old.limits) (append-nil events)
          ∙ asked.frames_are
          ∙ sym (append-nil frames);
      running = λ on. absurd (false≢true (sym ended_now ∙ on));
      counts_are = λ _. counting (asked.running running) ∙ ap (λ l. counts FRAME_BYTES t l events) (sym limits) ∙ ap (counts FRAME_BYTES t new.limits) (sym (append-nil events));
      whole = λ _. over_there t new.limits (events ++ []) end.left all over;
      cause = FaultCause-more origin now end old new running asked.cause (record {
        rose = λ fault. absurd (other fault);
        kept = λ _. faults;
        over = omega (arith, overs, ap overs_to is);
      });
    })
  where
    other : new.counts.ended ≡ Some ended.Fault → ⊥
    other fault = absurd (cc)

-- ---- up to the stop

left_of : (t : TicketFields) (limits : Limits) (events told : List Event) (old new : Option (List Event)) → old ≡ prepend_events events new → told ≡ events → IfSome new (λ more. stop FRAME_BYTES t limits (events ++ more) ≡ events) → IfSome old (λ all. stop FRAME_BYTES t limits all ≡ told)
left_of t limits events told None new left are whole = tt
left_of t limits events told (Some all) None left are whole = absurd (cc left)
left_of t limits events told (Some all) (Some more) left are whole =
    ap (stop FRAME_BYTES t limits) (same_Some _ _ left) ∙ whole ∙ sym are

-- what was asked of a gate by an intake
module _ (t : TicketFields) (limits : Limits) (gate : Change GateTold) (events : List Event) (frames : List (ℕ × ℕ)) (intake : IntakeState) (is : intake.limits ≡ limits) (asked : HasAsked t gate events frames intake) where
  pub told_is : events_told gate ≡ events
  told_is = events_told-took events gate asked.took

  pub taken_is : taken FRAME_BYTES t limits (events_told gate) ≡ frames
  taken_is = ap (taken FRAME_BYTES t limits) told_is ∙ ap (λ l. taken FRAME_BYTES t l events) (sym is) ∙ asked.frames_are

  stop_is : stop FRAME_BYTES t limits events ≡ events
  stop_is = ap (λ l. stop FRAME_BYTES t l events) (sym is) ∙ asked.all

  pub counts_is : is_running intake ≡ false → intake.counts ≡ counts FRAME_BYTES t limits (events_told gate)
  counts_is over =
      asked.counts_are over
      ∙ ap (λ l. counts FRAME_BYTES t l events) is
      ∙ ap (counts FRAME_BYTES t limits) (sym told_is)

  over_once_by : (running : Bool) → is_running intake ≡ running → gate.new.overs ≤ gate.old.overs + overs_to (counts FRAME_BYTES t limits (events_told gate)).ended
  over_once_by true running = omega (arith, asked.cause.over, no_overs intake.counts.ended running)
  over_once_by false over = omega (arith, asked.cause.over, ap (λ (c : GateCount). overs_to c.ended) (counts_is over))

  pub asks : AsksUpToStop t limits gate
  asks = record {
    took = subst (λ es. TookEvents es gate) (sym told_is) asked.took;
    no_further = ap (stop FRAME_BYTES t limits) told_is ∙ stop_is ∙ sym told_is;
    over_once = over_once_by (is_running intake) refl;
  }

  stop_there : is_running intake ≡ false → IfSome gate.old.left (λ all. stop FRAME_BYTES t limits all ≡ events_told gate)
  stop_there over = left_of t limits events (events_told gate) gate.old.left gate.new.left asked.took.left told_is (subst (λ l. IfSome gate.new.left (λ more. stop FRAME_BYTES t l (events ++ more) ≡ events)) is (asked.whole over))

  pub stops_there : is_running intake ≡ false → StopsThere t limits gate
  stops_there over = record {
    stop_is = stop_there over;
    over = asked.cause.over ∙ ap (λ (c : GateCount). gate.old.overs + overs_to c.ended) (counts_is over);
  }
