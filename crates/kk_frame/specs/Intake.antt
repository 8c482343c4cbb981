-- The intake of a gate: what it keeps of the events that it was given.
use Rattle.std.specs.Prelude.{◌≡◌, ℕ, ◌+◌, ◌-◌, ◌*◌, ◌<◌, ◌≤◌, Bool, true, is_none, if◌then◌else◌, List}
use Rattle.kk_code.specs.Ticket.{TicketFields}
use Rattle.kk_outside.specs.declared.event.Event.{Event}
use Rattle.kk_frame.specs.declared.datagram.TheConstants.{MAX_DATAGRAM_FRAMES}
use Rattle.kk_frame.specs.declared.frame.TheConstants.{FRAME_BYTES}
use Rattle.kk_frame.specs.declared.limits.Limits.{Limits}
use Rattle.kk_frame.specs.declared.gate_count.GateCount.{GateCount}
use Rattle.kk_frame.specs.Events.{last_quiets, stop, counts_so_far}
use Rattle.kk_frame.specs.Counting.{IsAtMost}

-- the counts, and how many quiets came in a row
pub record IntakeState : Type 0 where
  pub limits : Limits
  pub counts : GateCount
  pub quiets : ℕ

-- it has not ended
abbrev pub is_running : IntakeState → Bool
is_running s = is_none s.counts.ended

-- An intake that was given these events: it ran before each of them, and its counts are those of the definition.
pub record IsAfter (t : TicketFields) (events : List Event) (s : IntakeState) : Type 0 where
  pub all : stop FRAME_BYTES t s.limits events ≡ events
  pub counts : s.counts ≡ counts_so_far FRAME_BYTES t s.limits events
  pub quiets : is_running s ≡ true → s.quiets ≡ last_quiets events

-- how many more events it can take at most before it ends: after each datagram fewer than `idle` quiets
abbrev pub calls_left : IntakeState → ℕ
calls_left s =
    if is_running s then (s.limits.most - s.counts.datagrams) * s.limits.idle + (s.limits.idle - s.quiets) else 0

-- no count is greater than the frames that so many datagrams can have, and while it runs neither limit is reached
pub record IsIntake (s : IntakeState) : Type 0 where
  pub idle : 1 ≤ s.limits.idle
  pub most : 1 ≤ s.limits.most
  pub datagrams : s.counts.datagrams ≤ s.limits.most
  pub frames : s.counts.frames ≤ MAX_DATAGRAM_FRAMES * s.counts.datagrams
  pub refused : IsAtMost (MAX_DATAGRAM_FRAMES * s.counts.datagrams) s.counts.refused
  pub fewer_datagrams : is_running s ≡ true → s.counts.datagrams < s.limits.most
  pub fewer_quiets : is_running s ≡ true → s.quiets < s.limits.idle
