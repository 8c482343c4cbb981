-- What a receiver takes of the events of a gate, and where the gate ends.
use Rattle.std.specs.Prelude.{ℕ, Bool, true, false, not, ◌==◌, nat_le, if◌then◌else◌, Option, Some, None, is_some, unwrap_or, Ok, Err, List, [], ◌∷◌, length, reverse, take_while, flat_map, count_by}
use Rattle.kk_code.specs.Ticket.{TicketFields}
use Rattle.kk_frame.specs.declared.fault.FrameFault.{FrameFault}
use Rattle.kk_frame.specs.declared.fault.FrameFault.TheVariants.{Magic, Version, Kind, Session, Generation, Row, EndRow}
use Rattle.kk_outside.specs.declared.event.Event.{Event}
use Rattle.kk_outside.specs.declared.event.Event.TheVariants.{Datagram, Quiet, Fault}
use Rattle.kk_frame.specs.declared.limits.Limits.{Limits}
use Rattle.kk_frame.specs.declared.gate_count.Ended.{Ended}
use Rattle.kk_frame.specs.declared.gate_count.Ended.TheVariants as ended
use Rattle.kk_frame.specs.declared.gate_count.Refused.{Refused}
use Rattle.kk_frame.specs.declared.gate_count.GateCount.{GateCount}
use Rattle.kk_frame.specs.Datagram.{Reading, has_datagram_length, has_end, readings, data_frames}

-- ---- what the events hold

-- the bytes of each datagram of the events, in order
abbrev pub datagrams : List Event → List (List ℕ)
datagrams [] = []
datagrams (Datagram bytes ∷ events) = bytes ∷ datagrams events
datagrams (Quiet ∷ events) = datagrams events
datagrams (Fault ∷ events) = datagrams events

-- all that is read of the datagrams, in order
abbrev pub all_readings : ℕ → TicketFields → List Event → List Reading
all_readings size t events = flat_map (readings size t) (datagrams events)

-- the place of a rule in the order in which the rules are tried
abbrev pub place : FrameFault → ℕ
place Magic = 0
place Version = 1
place Kind = 2
place Session = 3
place Generation = 4
place Row = 5
place EndRow = 6

-- what was read of a piece is that it breaks this rule first
abbrev pub breaks : FrameFault → Reading → Bool
breaks fault (Ok frame) = false
breaks fault (Err told) = place told == place fault

-- how many pieces break this rule first
abbrev pub refusals : FrameFault → List Reading → ℕ
refusals fault rs = count_by (breaks fault) rs

-- what was refused, where so many datagrams have a wrong length
abbrev pub refused_of : ℕ → List Reading → Refused
refused_of badlength rs = record {
  badlength = badlength;
  magic = refusals Magic rs;
  version = refusals Version rs;
  kind = refusals Kind rs;
  session = refusals Session rs;
  generation = refusals Generation rs;
  row = refusals Row rs;
  endrow = refusals EndRow rs;
}

-- the counts over all of these events, for a gate that has ended so
abbrev pub counts_over : ℕ → TicketFields → Option Ended → List Event → GateCount
counts_over size t end events = record {
  ended = end;
  datagrams = length (datagrams events);
  frames = length (data_frames (all_readings size t events));
  refused = refused_of (count_by (λ bytes. not (has_datagram_length size bytes)) (datagrams events)) (all_readings size t events);
}

-- ---- where the gate ends

-- the last event passes the test
abbrev pub ends_with : (Event → Bool) → List Event → Bool
ends_with test [] = false
ends_with test (event ∷ []) = test event
ends_with test (event ∷ next ∷ events) = ends_with test (next ∷ events)

-- a datagram of which an END is read
abbrev pub reads_end : ℕ → TicketFields → Event → Bool
reads_end size t (Datagram bytes) = has_end (readings size t bytes)
reads_end size t Quiet = false
reads_end size t Fault = false

-- no datagram came for a while
abbrev pub is_quiet : Event → Bool
is_quiet (Datagram bytes) = false
is_quiet Quiet = true
is_quiet Fault = false

-- the gate failed
abbrev pub is_fault_event : Event → Bool
is_fault_event (Datagram bytes) = false
is_fault_event Quiet = false
is_fault_event Fault = true

-- how many quiets stand at the end of the events
abbrev pub last_quiets : List Event → ℕ
last_quiets events = length (take_while is_quiet (reverse events))

-- Why the gate ends with exactly these events, if it does: an END is read of the last one; there are `most` datagrams; the
-- last `idle` events are quiets; the last one is a fault. Where two of these hold, it is the first.
unfoldable pub end_with : ℕ → TicketFields → Limits → List Event → Option Ended
end_with size t limits events =
    if ends_with (reads_end size t) events then Some ended.End
    else (if length (datagrams events) == limits.most then Some ended.Most
    else (if nat_le limits.idle (last_quiets events) then Some ended.Idle
    else (if ends_with is_fault_event events then Some ended.Fault
    else None)))

-- the shortest prefix that passes the test, or the whole list where none does
unfoldable pub shortest_prefix : (List Event → Bool) → List Event → List Event
shortest_prefix test [] = []
shortest_prefix test (event ∷ events) =
    if test [] then [] else event ∷ shortest_prefix (λ prefix. test (event ∷ prefix)) events

-- the events up to where the gate ends: the shortest prefix with which it does, or all of them
abbrev pub stop : ℕ → TicketFields → Limits → List Event → List Event
stop size t limits events = shortest_prefix (λ prefix. is_some (end_with size t limits prefix)) events

-- ---- what a receiver takes, and what is counted

-- generation and row of each data frame that is taken of the events, in order
abbrev pub taken : ℕ → TicketFields → Limits → List Event → List (ℕ × ℕ)
taken size t limits events = data_frames (all_readings size t (stop size t limits events))

-- the counts so far, where more events may come
abbrev pub counts_so_far : ℕ → TicketFields → Limits → List Event → GateCount
counts_so_far size t limits events =
    let prefix = stop size t limits events in
    counts_over size t (end_with size t limits prefix) prefix

-- the counts of a gate that has these events and no more
abbrev pub counts : ℕ → TicketFields → Limits → List Event → GateCount
counts size t limits events =
    let prefix = stop size t limits events in
    counts_over size t (Some (unwrap_or (end_with size t limits prefix) ended.Over)) prefix

-- how many calls of a gate that ended so answered that its events are over: one, the last, where it ended by that
abbrev pub overs_to : Option Ended → ℕ
overs_to None = 0
overs_to (Some ended.End) = 0
overs_to (Some ended.Most) = 0
overs_to (Some ended.Idle) = 0
overs_to (Some ended.Fault) = 0
overs_to (Some ended.Over) = 1

-- A gate that ended so failed.
abbrev pub ended_by_fault : Option Ended → Bool
ended_by_fault None = false
ended_by_fault (Some ended.End) = false
ended_by_fault (Some ended.Most) = false
ended_by_fault (Some ended.Idle) = false
ended_by_fault (Some ended.Fault) = true
ended_by_fault (Some ended.Over) = false
