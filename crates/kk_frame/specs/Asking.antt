-- A gate whose events are given to an intake, one call after another.
use Rattle.std.specs.Prelude.{◌≡◌, ℕ, ◌+◌, ◌≤◌, true, false, Option, Some, None, IfSome, List, [], ◌++◌}
use Rattle.kk_outside.specs.Causes.{Rose}
use Rattle.kk_outside.specs.Change.{Change}
use Rattle.kk_outside.specs.Gate.{GateTold, TookEvents, events_told}
use Rattle.kk_outside.specs.declared.event.Event.{Event}
use Rattle.kk_code.specs.Ticket.{TicketFields}
use Rattle.kk_frame.specs.declared.frame.TheConstants.{FRAME_BYTES}
use Rattle.kk_frame.specs.declared.gate_count.Ended.TheVariants.{Fault}
use Rattle.kk_frame.specs.declared.gate_count.GateCount.{GateCount}
use Rattle.kk_frame.specs.declared.limits.Limits.{Limits}
use Rattle.kk_frame.specs.Events.{stop, taken, counts, overs_to}
use Rattle.kk_frame.specs.Intake.{IntakeState, IsAfter, is_running}

-- A gate that is counted so ended by a fault where its count of faults rose, or stands at its last value, and else that count
-- stayed. It answered once that its events are over where it is counted to have ended so, and else never.
pub record FaultCause (gate : Change GateTold) (counted : GateCount) : Type 0 where
  pub rose : counted.ended ≡ Some Fault → Rose gate.old.faults gate.new.faults
  pub kept : (counted.ended ≡ Some Fault → ⊥) → gate.new.faults ≡ gate.old.faults
  pub over : gate.new.overs ≡ gate.old.overs + overs_to counted.ended

-- An intake was given these events, which the gate told, and took these data frames of them. Where it has ended, it tells the
-- counts of the gate, and no more events would be taken.
pub record HasAsked (t : TicketFields) (gate : Change GateTold) (events : List Event) (frames : List (ℕ × ℕ)) (intake : IntakeState) : Type 0 where
  pub took : TookEvents events gate
  pub all : stop FRAME_BYTES t intake.limits events ≡ events
  pub frames_are : taken FRAME_BYTES t intake.limits events ≡ frames
  pub running : is_running intake ≡ true → IsAfter t events intake
  pub counts_are : is_running intake ≡ false → intake.counts ≡ counts FRAME_BYTES t intake.limits events
  pub whole : is_running intake ≡ false → IfSome gate.new.left (λ more. stop FRAME_BYTES t intake.limits (events ++ more) ≡ events)
  pub cause : FaultCause gate intake.counts

-- The calls took the events that they told of the gate, and none after the stop. No call came after one that answered that
-- the events are over.
pub record AsksUpToStop (t : TicketFields) (limits : Limits) (gate : Change GateTold) : Type 0 where
  pub took : TookEvents (events_told gate) gate
  pub no_further : stop FRAME_BYTES t limits (events_told gate) ≡ events_told gate
  pub over_once : gate.new.overs ≤ gate.old.overs + overs_to (counts FRAME_BYTES t limits (events_told gate)).ended

-- The gate was asked up to its stop: the stop of all events that it had left is that of those that it told, and where that is
-- no stop, it answered that they are over.
pub record StopsThere (t : TicketFields) (limits : Limits) (gate : Change GateTold) : Type 0 where
  pub stop_is : IfSome gate.old.left (λ events. stop FRAME_BYTES t limits events ≡ events_told gate)
  pub over : gate.new.overs ≡ gate.old.overs + overs_to (counts FRAME_BYTES t limits (events_told gate)).ended

-- the data frames of an answer of the intake: those of a datagram, and none of another event
abbrev pub frames_of : Option (List (ℕ × ℕ)) → List (ℕ × ℕ)
frames_of None = []
frames_of (Some batch) = batch
