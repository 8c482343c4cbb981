-- The counts of a gate before any event, and with one datagram more.
use Rattle.std.specs.Prelude.{◌≡◌, ℕ, ◌+◌, ◌≤◌, Bool, if◌then◌else◌, None, List, length}
use Rattle.kk_code.specs.Ticket.{TicketFields}
use Rattle.kk_frame.specs.declared.fault.FrameFault.{FrameFault}
use Rattle.kk_frame.specs.declared.fault.FrameFault.TheVariants.{Magic, Version, Kind, Session, Generation, Row, EndRow}
use Rattle.kk_frame.specs.declared.gate_count.GateCount.{GateCount}
use Rattle.kk_frame.specs.declared.gate_count.Refused.{Refused}
use Rattle.kk_frame.specs.declared.received.Received.{Received}
use Rattle.kk_frame.specs.Datagram.{Reading, has_datagram_length, has_end, readings, data_frames}
use Rattle.kk_frame.specs.Events.{refused_of}

-- nothing was refused
abbrev pub none_refused : Refused
none_refused = record { badlength = 0; magic = 0; version = 0; kind = 0; session = 0; generation = 0; row = 0; endrow = 0 }

-- the counts of a gate that was not asked
abbrev pub no_counts : GateCount
no_counts = record { ended = None; datagrams = 0; frames = 0; refused = none_refused }

-- one piece more that breaks this rule
abbrev pub one_more : FrameFault → Refused → Refused
one_more Magic r = record r { magic = r.magic + 1 }
one_more Version r = record r { version = r.version + 1 }
one_more Kind r = record r { kind = r.kind + 1 }
one_more Session r = record r { session = r.session + 1 }
one_more Generation r = record r { generation = r.generation + 1 }
one_more Row r = record r { row = r.row + 1 }
one_more EndRow r = record r { endrow = r.endrow + 1 }

abbrev pub sum_of : Refused → Refused → Refused
sum_of a b = record {
  badlength = a.badlength + b.badlength;
  magic = a.magic + b.magic;
  version = a.version + b.version;
  kind = a.kind + b.kind;
  session = a.session + b.session;
  generation = a.generation + b.generation;
  row = a.row + b.row;
  endrow = a.endrow + b.endrow;
}

-- each count is at most n
pub record IsAtMost (n : ℕ) (r : Refused) : Type 0 where
  pub badlength : r.badlength ≤ n
  pub magic : r.magic ≤ n
  pub version : r.version ≤ n
  pub kind : r.kind ≤ n
  pub session : r.session ≤ n
  pub generation : r.generation ≤ n
  pub row : r.row ≤ n
  pub endrow : r.endrow ≤ n

-- the datagram gave these readings; badlength is 1 where its length is wrong
pub record HasReadings (badlength : ℕ) (rs : List Reading) (r : Received) : Type 0 where
  pub batch : r.batch ≡ data_frames rs
  pub refused : r.refused ≡ refused_of badlength rs
  pub end : r.has_end ≡ has_end rs

-- The datagram has so many data frames, this was refused of it, and whether END was read of it.
pub record IsCounted (size : ℕ) (t : TicketFields) (bytes : List ℕ) (frames : ℕ) (refused : Refused) (end : Bool) : Type 0 where
  pub frames_are : frames ≡ length (data_frames (readings size t bytes))
  pub refused_is : refused ≡ refused_of (if has_datagram_length size bytes then 0 else 1) (readings size t bytes)
  pub end_is : end ≡ has_end (readings size t bytes)
