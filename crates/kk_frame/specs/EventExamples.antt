-- Worked events under the ticket of one byte, whose rows have six bits, with at most 3 datagrams and 2 quiets in a row.
use Rattle.std.specs.Prelude.{◌≡◌, refl, ℕ, Option, Some, [], ◌∷◌, ◌++◌, take, replicate}
use Rattle.kk_code.specs.Ticket.{one_byte}
use Rattle.kk_outside.specs.declared.event.Event.{Event}
use Rattle.kk_outside.specs.declared.event.Event.TheVariants.{Datagram, Quiet, Fault}
use Rattle.kk_frame.specs.declared.limits.Limits.{Limits}
use Rattle.kk_frame.specs.declared.gate_count.Ended.{Ended}
use Rattle.kk_frame.specs.declared.gate_count.Ended.TheVariants as ended
use Rattle.kk_frame.specs.declared.gate_count.GateCount.{GateCount}
use Rattle.kk_frame.specs.Frame.{frame_read, frame_fault}
use Rattle.kk_frame.specs.FrameExamples.{data_frame, end_frame, capture}
use Rattle.kk_frame.specs.Capture.{capture_events}
use Rattle.kk_frame.specs.Datagram.{up_to_end, readings, data_frames}
use Rattle.kk_frame.specs.Events.{end_with, shortest_prefix, taken, counts}

abbrev pub limits : Limits
limits = record { idle = 2; most = 3 }

-- a data frame, a datagram of a wrong length, and an END
abbrev pub v : Event
v = Datagram (data_frame 0 13)

abbrev pub x : Event
x = Datagram (replicate 19 75)

abbrev pub e : Event
e = Datagram end_frame

-- a data frame, an END, and a data frame after it
abbrev pub late : Event
late = Datagram (data_frame 0 13 ++ end_frame ++ data_frame 0 17)

-- why the gate ended, and how many datagrams, data frames and wrong lengths there were
abbrev pub told : GateCount → Option Ended × ℕ × ℕ × ℕ
told c = (c.ended, c.datagrams, c.frames, c.refused.badlength)

pub no_events : told (counts 20 one_byte limits []) ≡ (Some ended.Over, 0, 0, 0)
unfolding end_with shortest_prefix readings up_to_end data_frames frame_read frame_fault
no_events = refl

pub two_quiets : told (counts 20 one_byte limits (Quiet ∷ v ∷ Quiet ∷ v ∷ Quiet ∷ Quiet ∷ v ∷ [])) ≡ (Some ended.Idle, 2, 2, 0)
unfolding end_with shortest_prefix readings up_to_end data_frames frame_read frame_fault
two_quiets = refl

pub three_datagrams : told (counts 20 one_byte limits (v ∷ x ∷ v ∷ v ∷ [])) ≡ (Some ended.Most, 3, 2, 1)
unfolding end_with shortest_prefix readings up_to_end data_frames frame_read frame_fault
three_datagrams = refl

pub end_before_most : told (counts 20 one_byte limits (v ∷ v ∷ e ∷ [])) ≡ (Some ended.End, 3, 2, 0)
unfolding end_with shortest_prefix readings up_to_end data_frames frame_read frame_fault
end_before_most = refl

pub end_within_a_datagram : told (counts 20 one_byte limits (v ∷ late ∷ [])) ≡ (Some ended.End, 2, 2, 0)
unfolding end_with shortest_prefix readings up_to_end data_frames frame_read frame_fault
end_within_a_datagram = refl

pub taken_before_the_end : taken 20 one_byte limits (v ∷ late ∷ []) ≡ (0, 13) ∷ (0, 13) ∷ []
unfolding end_with shortest_prefix readings up_to_end data_frames frame_read frame_fault
taken_before_the_end = refl

pub fault_ends : told (counts 20 one_byte limits (v ∷ Fault ∷ v ∷ [])) ≡ (Some ended.Fault, 1, 1, 0)
unfolding end_with shortest_prefix readings up_to_end data_frames frame_read frame_fault
fault_ends = refl

-- ---- the capture of the one byte A0

abbrev pub at_most : ℕ → Limits
at_most most = record { idle = 1; most = most }

pub frames_of_the_capture :
    taken 20 one_byte (at_most 10) (capture_events 20 capture) ≡ (0, 13) ∷ (0, 17) ∷ (0, 34) ∷ (1, 8) ∷ (1, 16) ∷ (1, 32) ∷ (2, 8) ∷ (2, 16) ∷ (2, 32) ∷ []
unfolding end_with shortest_prefix readings up_to_end data_frames frame_read frame_fault
frames_of_the_capture = refl

-- END is piece number 10
pub end_is_the_last_of_ten : told (counts 20 one_byte (at_most 10) (capture_events 20 capture)) ≡ (Some ended.End, 10, 9, 0)
unfolding end_with shortest_prefix readings up_to_end data_frames frame_read frame_fault
end_is_the_last_of_ten = refl

-- with at most four datagrams, the gate takes four
pub four_at_most : taken 20 one_byte (at_most 4) (capture_events 20 capture) ≡ (0, 13) ∷ (0, 17) ∷ (0, 34) ∷ (1, 8) ∷ []
unfolding end_with shortest_prefix readings up_to_end data_frames frame_read frame_fault
four_at_most = refl

-- two frames and a half: what remains is a datagram of a wrong length
pub two_frames_and_a_half : told (counts 20 one_byte (at_most 10) (capture_events 20 (take 50 capture))) ≡ (Some ended.Over, 3, 2, 1)
unfolding end_with shortest_prefix readings up_to_end data_frames frame_read frame_fault
two_frames_and_a_half = refl

-- which can be the last that is allowed
pub a_half_makes_most : told (counts 20 one_byte (at_most 3) (capture_events 20 (take 50 capture))) ≡ (Some ended.Most, 3, 2, 1)
unfolding end_with shortest_prefix readings up_to_end data_frames frame_read frame_fault
a_half_makes_most = refl
