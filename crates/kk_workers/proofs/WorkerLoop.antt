-- A worker's gate, one answer after another.
use Rattle.std.proofs.Common.{◌≡◌, ◌↔◌, ◌⊎◌, ℕ, Bool, ◌+◌, ◌*◌, ◌-◌, ◌^◌, ◌<◌, ◌≤◌, min, true, false, List, [], ◌++◌, length, Option, Some, None, refl, sym, ap, ◌∙◌, subst, length-append, ⊎_elim, inl, inr, arith}
use Rattle.std.specs.Prelude.{unwrap_or, IfSome}
use Rattle.kk_outside.specs.Causes.{CanCount}
use Rattle.kk_outside.specs.Change.{Change, change}
use Rattle.kk_outside.specs.Gate.{GateTold, events_told, GateFailed}
use Rattle.kk_outside.specs.declared.event.Event.{Event}
use Rattle.kk_code.specs.Ticket.{TicketFields, generations}
use Rattle.kk_frame.specs.declared.frame.TheConstants.{FRAME_BYTES}
use Rattle.kk_frame.specs.declared.limits.Limits.{Limits}
use Rattle.kk_frame.specs.declared.gate_count.Ended.{Ended}
use Rattle.kk_frame.specs.declared.gate_count.Ended.TheVariants as ended
use Rattle.kk_frame.specs.declared.gate_count.GateCount.{GateCount}
use Rattle.kk_frame.specs.Asking.{FaultCause, HasAsked, AsksUpToStop}
use Rattle.kk_frame.specs.Datagram.{data_frames}
use Rattle.kk_frame.specs.Events.{all_readings, end_with, counts_over, stop}
use Rattle.kk_frame.specs.Intake.{IntakeState, IsIntake, IsAfter, is_running, calls_left}
use Rattle.kk_frame.proofs.Asks.{HasAsked-start, told_is, taken_is, counts_is, asks, stops_there}
use Rattle.kk_machine.specs.declared.call.Entry.{Entry}
use Rattle.kk_machine.specs.Inserts.{AreBelow}
use Rattle.kk_workers.specs.declared.plan.Plan.{Plan}
use Rattle.kk_workers.specs.declared.totals.Totals.{Totals}
use Rattle.kk_workers.specs.WorkerCalls.{all_brought, InsertsFor, CountsAndInserts, WasWorkedOff}
use Rattle.kk_workers.specs.WorkerLoop.{InsertsInOrder, AreTotals, IsUnderWay}
use Rattle.kk_workers.proofs.Bringing.{InsertsInOrder-nothing, InsertsInOrder-append, inserts-brought}

-- ---- so far

pub IsUnderWay-start : (t : TicketFields) (plan : Plan) (now : GateTold) (s : IntakeState) (calls : List Entry) → ((u : TicketFields) → IsAfter u [] s) → is_running s ≡ true → s.limits ≡ plan.limits → calls_left s ≡ (plan.limits.most + 1) * plan.limits.idle → calls ≡ [] → IsUnderWay t plan (change now now) s calls
IsUnderWay-start t plan now s calls after running limited left none = record {
  events = [];
  frames = [];
  limited = limited;
  asked = HasAsked-start t now s after running;
  few = omega (arith, left);
  brings = subst (λ (b : List Entry). InsertsInOrder (generations t) plan.goal [] b []) (sym none) (InsertsInOrder-nothing (generations t) plan.goal []);
}

pub IsUnderWay-more : (t : TicketFields) (plan : Plan) (start now end : GateTold) (s s' : IntakeState) (calls calls' : List Entry) (more : List (ℕ × ℕ)) (w : IsUnderWay t plan (change start now) s calls)
    → HasAsked t (change start end) (w.events ++ events_told (change now end)) (w.frames ++ more) s' → length (events_told (change now end)) ≤ 1 → s'.limits ≡ s.limits → calls_left s' < calls_left s
    → InsertsInOrder (generations t) plan.goal calls calls' more → IsUnderWay t plan (change start end) s' calls'
IsUnderWay-more t plan start now end s s' calls calls' more w asked one limits sooner brings = record {
  events = w.events ++ events_told (change now end);
  frames = w.frames ++ more;
  limited = limits ∙ w.limited;
  asked = asked;
  few = omega (arith, length-append w.events (events_told (change now end)), one, sooner, w.few);
  brings = InsertsInOrder-append (generations t) plan.goal [] calls calls' w.frames more w.brings brings;
}

-- ---- at the end

-- the counts over these events, which are those up to the stop
abbrev counts_at : TicketFields → Limits → List Event → GateCount
counts_at t limits prefix = counts_over FRAME_BYTES t (Some (unwrap_or (end_with FRAME_BYTES t limits prefix) ended.Over)) prefix

-- what is taken and counted rests on the events up to the stop alone
CountsAndInserts-stop : (t : TicketFields) (limits : Limits) (all events : List Event) (counted : GateCount) (calls : List Entry) → stop FRAME_BYTES t limits all ≡ events → stop FRAME_BYTES t limits events ≡ events → CountsAndInserts t limits events counted calls → CountsAndInserts t limits all counted calls
CountsAndInserts-stop t limits all events counted calls stopped same takes =
    let both : stop FRAME_BYTES t limits events ≡ stop FRAME_BYTES t limits all = same ∙ sym stopped in
    record {
      counts = takes.counts ∙ ap (counts_at t limits) both;
      in_order = takes.in_order ∙ ap (λ (es : List Event). data_frames (all_readings FRAME_BYTES t es)) both;
    }

pub WasWorkedOff-end : (t : TicketFields) (plan : Plan) (gate : Change GateTold) (s : IntakeState) (calls : List Entry) → is_running s ≡ false → IsUnderWay t plan gate s calls → WasWorkedOff t plan gate s.counts calls
WasWorkedOff-end t plan gate s calls off w =
    let told : events_told gate ≡ w.events = told_is t plan.limits gate w.events w.frames s w.limited w.asked in
    let up_to : AsksUpToStop t plan.limits gate = asks t plan.limits gate w.events w.frames s w.limited w.asked in
    let takes : CountsAndInserts t plan.limits (events_told gate) s.counts calls = record {
      counts = counts_is t plan.limits gate w.events w.frames s w.limited w.asked off;
      in_order = ap all_brought w.brings.goes_on ∙ w.brings.in_order ∙ sym (taken_is t plan.limits gate w.events w.frames s w.limited w.asked);
    } in
    record {
      logged = up_to.took.logged;
      left = up_to.took.left;
      stopped = up_to.no_further;
      few = omega (arith, ap length told, w.few);
      takes = takes;
      known = λ all is.
          let at : stop FRAME_BYTES t plan.limits all ≡ events_told gate =
          subst (λ (left : Option (List Event)). IfSome left (λ events. stop FRAME_BYTES t plan.limits events ≡ events_told gate)) is (stops_there t plan.limits gate w.events w.frames s w.limited w.asked off).stop_is in
          (at, CountsAndInserts-stop t plan.limits all (events_told gate) s.counts calls at up_to.no_further takes);
      inserts = subst (InsertsFor plan.goal) (sym w.brings.goes_on) w.brings.inserts;
      below = subst (AreBelow (generations t)) (sym w.brings.goes_on) w.brings.below;
    }

-- ---- how many inserts there are

counted_frames : (t : TicketFields) (gate : Change GateTold) (events : List Event) (frames : List (ℕ × ℕ)) (s : IntakeState) (running : Bool) → is_running s ≡ running → HasAsked t gate events frames s → s.counts.frames ≡ length frames
counted_frames t gate events frames s true on asked = ap (λ (c : GateCount). c.frames) (asked.running on).counts ∙ ap length asked.frames_are
counted_frames t gate events frames s false off asked = ap (λ (c : GateCount). c.frames) (asked.counts_are off) ∙ ap length asked.frames_are

pub few_inserts : (t : TicketFields) (plan : Plan) (gate : Change GateTold) (s : IntakeState) (calls : List Entry) (totals : Totals) → plan.limits.most < 2 ^ 32 → IsIntake s → IsUnderWay t plan gate s calls → AreTotals totals calls → totals.inserts ≤ 2 ^ 39
few_inserts t plan gate s calls totals small intake w are =
    let all : totals.inserts ≡ s.counts.frames =
    ap (λ (x : Totals). x.inserts) are.are ∙ inserts-brought calls ∙ ap (λ (es : List Entry). length (all_brought es)) w.brings.goes_on ∙ ap length w.brings.in_order
    ∙ sym (counted_frames t gate w.events w.frames s (is_running s) refl w.asked) in
    let most : s.limits.most ≡ plan.limits.most = ap (λ (l : Limits). l.most) w.limited in
    omega (arith, all, most, small, intake.frames, intake.datagrams)

-- ---- causes

fault_or_not : (o : Option Ended) → (o ≡ Some ended.Fault) ⊎ (o ≡ Some ended.Fault → ⊥)
fault_or_not None = inr (λ is. cc is)
fault_or_not (Some ended.End) = inr (λ is. cc is)
fault_or_not (Some ended.Idle) = inr (λ is. cc is)
fault_or_not (Some ended.Most) = inr (λ is. cc is)
fault_or_not (Some ended.Fault) = inl refl
fault_or_not (Some ended.Over) = inr (λ is. cc is)

rose_above : (old new : ℕ) → old < 2 ^ 64 - 1 → min (old + 1) (2 ^ 64 - 1) ≤ new → old < new
rose_above old new can rose = omega (arith, can, rose)

pub fault_exactly : (gate : Change GateTold) (counted : GateCount) → FaultCause gate counted → CanCount gate.old.faults → (counted.ended ≡ Some ended.Fault) ↔ GateFailed gate
fault_exactly gate counted cause can = (
  λ is. rose_above gate.old.faults gate.new.faults can (cause.rose is),
  λ rose. ⊎_elim (λ is. is) (λ no. absurd (omega (arith, cause.kept no, rose))) (fault_or_not counted.ended),
)
