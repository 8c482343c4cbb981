-- What is true of all frames and of all events, which the functions of `laws` prove.
use Rattle.std.specs.Prelude.{◌≡◌, ◌↔◌, ◌⊎◌, ℕ, ◌<◌, Bool, true, false, is_some, Some, Ok, List, [], ◌∷◌, ◌++◌, length, take, drop, All}
use Rattle.kk_code.specs.Ticket.{TicketFields}
use Rattle.kk_code.specs.TicketText.{IsTicket}
use Rattle.kk_outside.specs.declared.event.Event.{Event}
use Rattle.kk_outside.specs.declared.event.Event.TheVariants.{Datagram}
use Rattle.kk_frame.specs.declared.frame.TheConstants.{FRAME_BYTES}
use Rattle.kk_frame.specs.declared.limits.Limits.{Limits}
use Rattle.kk_frame.specs.declared.gate_count.Ended.{Ended}
use Rattle.kk_frame.specs.Frame.{FrameValue, IsFrame, frame_text, frame_read}
use Rattle.kk_frame.specs.Events.{end_with, stop, taken, counts}
use Rattle.kk_frame.specs.Intake.{IntakeState, IsAfter, is_running}
use Rattle.kk_frame.specs.Capture.{capture_events}

-- the bytes of a piece
pub record AreFrameBytes (bytes : List ℕ) : Type 0 where
  pub len : length bytes ≡ FRAME_BYTES
  pub below : All (λ b. b < 256) bytes

-- A frame is read of a piece exactly where the piece is the text of that frame, which the ticket has.
abbrev pub FrameIsItsText : Type 0
FrameIsItsText =
    (t : TicketFields) (bytes : List ℕ) (frame : FrameValue) → IsTicket t → AreFrameBytes bytes →
    (frame_read t bytes ≡ Ok frame) ↔ (IsFrame t frame × (bytes ≡ frame_text t frame))

-- Two frames of one ticket with one text are one frame.
abbrev pub FramesHaveTheirOwnTexts : Type 0
FramesHaveTheirOwnTexts =
    (t : TicketFields) (one other : FrameValue) → IsTicket t → IsFrame t one → IsFrame t other →
    frame_text t one ≡ frame_text t other → one ≡ other

-- The prefix is the shortest one of the events that passes the test, or all of them where none does.
pub record IsShortestPrefix (test : List Event → Bool) (events prefix : List Event) : Type 0 where
  pub after : List Event
  pub front : events ≡ prefix ++ after
  pub shorter : (n : ℕ) → n < length prefix → test (take n prefix) ≡ false
  pub ends : (test prefix ≡ true) ⊎ (prefix ≡ events)

-- The stop is the shortest prefix with which the gate ends, or all events.
abbrev pub StopIsShortestPrefix : Type 0
StopIsShortestPrefix =
    (size : ℕ) (t : TicketFields) (limits : Limits) (events : List Event) →
    IsShortestPrefix (λ prefix. is_some (end_with size t limits prefix)) events (stop size t limits events)

-- While an intake runs the gate doesn't stop: it goes on to the next event, whatever the gate has after that one.
abbrev pub RunningIntakeGoesOn : Type 0
RunningIntakeGoesOn =
    (t : TicketFields) (events : List Event) (next : Event) (more : List Event) (s : IntakeState) → IsAfter t events s → is_running s ≡ true →
    (after : List Event) × (stop FRAME_BYTES t s.limits (events ++ next ∷ more) ≡ events ++ next ∷ after)

-- Where an intake has ended by an event, the gate stops there, whatever it has after that event: the counts of the intake
-- are those of the gate, and what was taken is all that is taken.
abbrev pub EndedIntakeTellsAll : Type 0
EndedIntakeTellsAll =
    (t : TicketFields) (events more : List Event) (s : IntakeState) (end : Ended) → IsAfter t events s → s.counts.ended ≡ Some end →
    (stop FRAME_BYTES t s.limits (events ++ more) ≡ events)
    × (s.counts ≡ counts FRAME_BYTES t s.limits (events ++ more))
    × (taken FRAME_BYTES t s.limits events ≡ taken FRAME_BYTES t s.limits (events ++ more))

-- A capture gives one event for each piece, and one for the bytes that remain.
abbrev pub CaptureIsCutIntoPieces : Type 0
CaptureIsCutIntoPieces =
    (size : ℕ) (bytes : List ℕ) → 0 < size →
    (capture_events size [] ≡ [])
    × (0 < length bytes → capture_events size bytes ≡ Datagram (take size bytes) ∷ capture_events size (drop size bytes))
