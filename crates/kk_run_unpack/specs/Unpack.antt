-- `unpack`: a capture of frames comes in, and the file goes out.
use Rattle.std.specs.Prelude.{◌≡◌, ◌↔◌, ◌⊎◌, ℕ, ◌==◌, ◌||◌, if◌then◌else◌, ◌<◌, Option, Some, None, IfSome, IsSomeAnd, List, [], ◌∷◌, ◌++◌, length, take, drop, sum_by, Ok, codes}
use Rattle.kk_outside.specs.Causes.{CanCount}
use Rattle.kk_outside.specs.Change.{Change}
use Rattle.kk_outside.specs.Source.{Read, AtEnd, Failed, SourceTold, SourceFailed, Took, bytes_read}
use Rattle.kk_outside.specs.Sink.{SinkTold, SinkFailed, WasGiven}
use Rattle.kk_code.specs.Ticket.{TicketFields}
use Rattle.kk_frame.specs.declared.frame.TheConstants.{FRAME_BYTES}
use Rattle.kk_frame.specs.declared.limits.Limits.{Limits}
use Rattle.kk_frame.specs.declared.gate_count.GateCount.{GateCount}
use Rattle.kk_frame.specs.Capture.{capture_events}
use Rattle.kk_frame.specs.Events.{datagrams, stop, taken, counts}
use Rattle.kk_outside.specs.declared.event.Event.{Event}
use Rattle.kk_report.specs.declared.refusal.Refusal.TheVariants.{Input}
use Rattle.kk_outcome.specs.Answers.{file_text, outcomes_of, totals_of}
use Rattle.kk_report.specs.Command.{IsRefusalOfWords, RanThrough}
use Rattle.kk_report.specs.Refusal.{refusal_text}
use Rattle.kk_outcome.specs.Outcome.{received_lines}
use Rattle.kk_report.specs.Report.{status_line}
use Rattle.kk_forms.specs.Form.{NumberOption, Word}
use Rattle.kk_order.specs.Order.{Order, OrderForm, number_of, order_of}
use Rattle.kk_order.specs.Refuses.{Refuses}
use Rattle.kk_order.specs.declared.bound.Limit.TheVariants.{Exactly}
use Rattle.kk_order.specs.declared.order_form.TicketPlace.TheVariants.{First}
use Rattle.kk_order.specs.declared.words.TheConstants.{DATAGRAMS_LIMIT}

-- ---- the words

-- The form of an order to unpack: the ticket, and how many pieces are taken at most, ten million where no number is given.
abbrev pub unpack_form : OrderForm
unpack_form = record {
  words = record {
    name = codes "unpack";
    arguments = Word (codes "TICKET") ∷ NumberOption (codes "most") (Some 10000000) ∷ [];
  };
  ticket = First;
  bounds = record { name = codes "most"; least = 1; most = Exactly DATAGRAMS_LIMIT } ∷ [];
  listeners = None;
}

-- how many pieces are taken at most; an order to unpack has this number
abbrev pub max_pieces : Order → ℕ
max_pieces order = number_of order (codes "most")

-- A run with these words and this status unpacked by this order: it wasn't refused.
pub record UnpacksBy (order : Order) (words : List (List ℕ)) (status : ℕ) : Type 0 where
  pub ordered : order_of unpack_form words ≡ Ok order
  pub accepted : IsRefusalOfWords status → ⊥

-- ---- the capture

-- at most so many pieces are taken; a capture has no quiets
abbrev pub piece_limits : ℕ → Limits
piece_limits most = record { idle = 1; most = most }

-- the pieces of a capture as the events of a gate
abbrev pub pieces : List ℕ → List Event
pieces bytes = capture_events FRAME_BYTES bytes

-- the pieces that are read: those up to the stop
abbrev pub pieces_read : TicketFields → ℕ → List ℕ → List Event
pieces_read t most bytes = stop FRAME_BYTES t (piece_limits most) (pieces bytes)

-- the data frames of a capture, up to the stop
abbrev pub vectors_of : TicketFields → ℕ → List ℕ → List (ℕ × ℕ)
vectors_of t most bytes = taken FRAME_BYTES t (piece_limits most) (pieces bytes)

-- what is counted of a capture up to the stop, and why it stops there
abbrev pub counts_of : TicketFields → ℕ → List ℕ → GateCount
counts_of t most bytes = counts FRAME_BYTES t (piece_limits most) (pieces bytes)

-- the file that a capture unpacks to, where every generation decodes
unfoldable pub unpacked : TicketFields → ℕ → List ℕ → Option (List ℕ)
unpacked t most bytes = file_text t (vectors_of t most bytes)

-- how many bytes of a capture are read
unfoldable pub read_length : TicketFields → ℕ → List ℕ → ℕ
read_length t most bytes = sum_by length (datagrams (pieces_read t most bytes))

-- The stop is at the end of these bytes: nothing that comes after them is read.
abbrev pub EndsAtStop : TicketFields → ℕ → List ℕ → Type 0
EndsAtStop t most bytes = (more : List ℕ) → read_length t most (bytes ++ more) ≡ length bytes

-- The stop isn't reached with these bytes: they are read with some of what comes after them.
abbrev pub IsBeforeStop : TicketFields → ℕ → List ℕ → Type 0
IsBeforeStop t most bytes = (more : List ℕ) → 0 < length more → length bytes < read_length t most (bytes ++ more)

-- After the reads that gave these bytes there was no read where they end at the stop, and else one that found the end.
abbrev pub IsLastRead : TicketFields → ℕ → List ℕ → List Read → Type 0
IsLastRead t most bytes [] = EndsAtStop t most bytes
IsLastRead t most bytes (AtEnd ∷ []) = IsBeforeStop t most bytes
IsLastRead t most bytes other = ⊥

-- Exactly the bytes up to the stop were read, each read but one at the end giving some.
pub record ReadsUpToStop (t : TicketFields) (most : ℕ) (source : Change SourceTold) : Type 0 where
  pub last : List Read
  pub took : Took (bytes_read source) last source
  pub ended : IsLastRead t most (bytes_read source) last

-- A read failed, the last of all, before the stop was reached.
pub record FailsBeforeStop (t : TicketFields) (most : ℕ) (source : Change SourceTold) : Type 0 where
  pub took : Took (bytes_read source) (Failed ∷ []) source
  pub before : IsBeforeStop t most (bytes_read source)

-- Of a source with these bytes left, exactly those up to the stop were taken, and the pieces read are those of all bytes.
pub record LeavesRemainder (t : TicketFields) (most : ℕ) (bytes : List ℕ) (source : Change SourceTold) : Type 0 where
  pub taken : bytes_read source ≡ take (read_length t most bytes) bytes
  pub left : source.new.left ≡ Some (drop (read_length t most bytes) bytes)
  pub same : pieces_read t most (bytes_read source) ≡ pieces_read t most bytes

-- Fewer bytes than those up to the stop were taken, or all of them where there were no more.
abbrev pub LeavesMore : TicketFields → ℕ → List ℕ → Change SourceTold → Type 0
LeavesMore t most bytes source = (length (bytes_read source) < read_length t most bytes) ⊎ (source.new.left ≡ Some [])

-- ---- the report

-- The report of a capture: what became of the gate and of each generation where the file was written or some generation has
-- no answer; the fault of the source; or the status alone, where the file's sink failed.
abbrev pub report_of : TicketFields → ℕ → List ℕ → ℕ → List ℕ
report_of t most bytes status =
    if (status == 0) || (status == 3) then
    received_lines (counts_of t most bytes ∷ []) (outcomes_of t (vectors_of t most bytes)) (totals_of t (vectors_of t most bytes))
    ++ status_line status
    else (if status == 4 then refusal_text Input else status_line status)

-- The report's sink was given the report, which tells the status of the run, or 0 where that is 5 since the report
-- failed. It tells 5 exactly where the file's sink failed.
pub record IsReported (t : TicketFields) (most : ℕ) (bytes : List ℕ) (status : ℕ) (file report : Change SinkTold) : Type 0 where
  pub told : ℕ
  pub same_or_five : (status ≡ told) ⊎ ((told ≡ 0) × (status ≡ 5))
  pub five : CanCount file.old.faults → RanThrough status → ((told ≡ 5) ↔ SinkFailed file)
  pub given : WasGiven (report_of t most bytes told) report

-- ---- the status

-- the statuses of `unpack`
abbrev pub IsUnpackStatus : ℕ → Type 0
IsUnpackStatus status = IsRefusalOfWords status ⊎ ((status ≡ 3) ⊎ ((status ≡ 4) ⊎ RanThrough status))

-- ---- the promise

-- What a run of `unpack` makes of its source and its two sinks, and which status it has.
pub record Unpacks (words : List (List ℕ)) (source : Change SourceTold) (file report : Change SinkTold) (status : ℕ) : Type 0 where
  -- Which status comes: 8 is want of memory, and 0 comes where no other status does.
  pub refusals : Refuses (order_of unpack_form words) status report
  pub not_decoded : (order : Order) → UnpacksBy order words status → (status ≡ 4 → ⊥) → ((status ≡ 3) ↔ (unpacked order.ticket (max_pieces order) (bytes_read source) ≡ None))
  pub input_fault : CanCount source.old.faults → ((status ≡ 4) ↔ SourceFailed source)
  pub output_fault : CanCount file.old.faults → CanCount report.old.faults → RanThrough status → ((status ≡ 5) ↔ (SinkFailed file ⊎ SinkFailed report))
  pub no_other_status : IsUnpackStatus status
  -- What was read: exactly the bytes up to the stop, unless a read failed before it.
  pub read_to_stop : (order : Order) → UnpacksBy order words status → (status ≡ 4 → ⊥) → ReadsUpToStop order.ticket (max_pieces order) source
  pub failed_before_stop : (order : Order) → UnpacksBy order words status → status ≡ 4 → FailsBeforeStop order.ticket (max_pieces order) source
  -- The same where the source tells the bytes that it has left.
  pub remainder : (order : Order) → UnpacksBy order words status → (status ≡ 4 → ⊥) → IfSome source.old.left (λ bytes. LeavesRemainder order.ticket (max_pieces order) bytes source)
  pub more_left : (order : Order) → UnpacksBy order words status → status ≡ 4 → IfSome source.old.left (λ bytes. LeavesMore order.ticket (max_pieces order) bytes source)
  -- What the file's sink holds.
  pub written : (order : Order) → UnpacksBy order words status → RanThrough status → IsSomeAnd (unpacked order.ticket (max_pieces order) (bytes_read source)) (λ text. WasGiven text file)
  -- What the report's sink holds.
  pub reported : (order : Order) → UnpacksBy order words status → IsReported order.ticket (max_pieces order) (bytes_read source) status file report
