-- What a gate tells, and what one of its calls does to that.
use Rattle.std.specs.Prelude.{◌≡◌, ℕ, ◌+◌, ◌<◌, ◌≤◌, List, [], ◌∷◌, ◌++◌, length, take, drop, Option, Some, None, Result, Ok, Err, IfOk}
use Rattle.std.specs.Option.{option_map}
use Rattle.kk_outside.specs.Change.{Change}
use Rattle.kk_outside.specs.declared.event.Event.{Event}
use Rattle.kk_outside.specs.declared.event.Event.TheVariants.{Datagram, Quiet, Fault}
use Rattle.kk_outside.specs.declared.got.Got.{Got}
use Rattle.kk_outside.specs.declared.got.Got.TheVariants as got
use Rattle.kk_outside.specs.declared.gate.TheConstants.{GATE_BYTES}

-- the events that are left, where the gate tells them, the events that its calls have told so far, how many calls it has
-- answered by `Over`, and how often it failed
pub record GateTold : Type 0 where
  pub left : Option (List Event)
  pub events : List Event
  pub overs : ℕ
  pub faults : ℕ

-- its count of faults rose
abbrev pub GateFailed : Change GateTold → Type 0
GateFailed gate = gate.old.faults < gate.new.faults

-- these events, and then the known ones
abbrev pub prepend_events : List Event → Option (List Event) → Option (List Event)
prepend_events events left = option_map (λ es. events ++ es) left

-- no event is left, as far as that is known
abbrev pub IsOver : Option (List Event) → Type 0
IsOver None = Unit {0}
IsOver (Some es) = es ≡ []

-- the event that an answer tells, by this buffer; none where the events are over
abbrev pub events_of_got : Got → List ℕ → List Event
events_of_got (got.Datagram n) buf = Datagram (take n buf) ∷ []
events_of_got got.Quiet buf = Quiet ∷ []
events_of_got got.Over buf = []

-- the event that an answer of a gate tells, by this buffer: a fault where the call failed, and none where the events are over
abbrev pub events_of : {E : Type 0} → Result Got E → List ℕ → List Event
events_of (Ok answer) buf = events_of_got answer buf
events_of (Err e) buf = Fault ∷ []

-- how many of one answer are `Over`
abbrev pub overs_of : {E : Type 0} → Result Got E → ℕ
overs_of (Ok (got.Datagram n)) = 0
overs_of (Ok got.Quiet) = 0
overs_of (Ok got.Over) = 1
overs_of (Err e) = 0

-- a datagram that is told lies within the buffer
abbrev pub IsWithin : Got → List ℕ → Type 0
IsWithin (got.Datagram n) buf = n ≤ length buf
IsWithin got.Quiet buf = Unit {0}
IsWithin got.Over buf = Unit {0}

-- one call: it tells the first event left, and the others are left; or there is none
pub record TellsFrom {E : Type 0} (gate : Change GateTold) (result : Result Got E) (buf : List ℕ) : Type 0 where
  pub bounded : IfOk result (λ answer. IsWithin answer buf)
  pub first : gate.old.left ≡ prepend_events (events_of result buf) gate.new.left
  pub over : events_of result buf ≡ [] → IsOver gate.new.left
  pub logged : gate.new.events ≡ gate.old.events ++ events_of result buf
  pub counted : gate.new.overs ≡ gate.old.overs + overs_of result

-- the events that the calls of a call told
abbrev pub events_told : Change GateTold → List Event
events_told gate = drop (length gate.old.events) gate.new.events

-- These events were taken of the gate: its calls told them, and they were the first of those that it had left.
pub record TookEvents (events : List Event) (gate : Change GateTold) : Type 0 where
  pub logged : gate.new.events ≡ gate.old.events ++ events
  pub left : gate.old.left ≡ prepend_events events gate.new.left

-- a datagram fits the buffer of a gate
abbrev pub FitsGate : Event → Type 0
FitsGate (Datagram bytes) = length bytes ≤ GATE_BYTES
FitsGate Quiet = Unit {0}
FitsGate Fault = Unit {0}
