-- `pack`: a file comes in, and its capture goes out.
use Rattle.std.specs.Prelude.{◌≡◌, ◌↔◌, ◌⊎◌, ℕ, List, [], ◌∷◌, ◌++◌, length, codes, Some, None, IfSome, Ok}
use Rattle.std.specs.Fmt.{decimal}
use Rattle.kk_outside.specs.Causes.{CanCount}
use Rattle.kk_outside.specs.Change.{Change}
use Rattle.kk_outside.specs.Source.{SourceTold, SourceFailed, bytes_read}
use Rattle.kk_outside.specs.Sink.{SinkTold, SinkFailed, WasGiven}
use Rattle.kk_code.specs.Ticket.{TicketFields}
use Rattle.kk_sender.specs.LengthRule.{wrong_length, ReadsToLength, FailsWithinLength, LeavesAfterLength}
use Rattle.kk_sender.specs.SentFrames.{capture_frames, packed}
use Rattle.kk_sender.specs.declared.fault.FileFault.{FileFault}
use Rattle.kk_sender.specs.declared.fault.FileFault.TheVariants as file_fault
use Rattle.kk_report.specs.declared.refusal.Refusal.{Refusal}
use Rattle.kk_report.specs.declared.refusal.Refusal.TheVariants.{Input, Length}
use Rattle.kk_report.specs.Command.{RanThrough}
use Rattle.kk_report.specs.Refusal.{IsRefused}
use Rattle.kk_report.specs.Report.{IsConcluded}
use Rattle.kk_forms.specs.Form.{Word}
use Rattle.kk_order.specs.Order.{Order, OrderForm, order_of}
use Rattle.kk_order.specs.Refuses.{Refuses}
use Rattle.kk_order.specs.declared.order_form.TicketPlace.TheVariants.{First}

-- ---- the words

-- the form of an order to pack: the ticket
abbrev pub pack_form : OrderForm
pack_form = record {
  words = record { name = codes "pack"; arguments = Word (codes "TICKET") ∷ [] };
  ticket = First;
  bounds = [];
  listeners = None;
}

-- The words ask to pack under this ticket.
pub record NamesTicket (words : List (List ℕ)) (t : TicketFields) : Type 0 where
  pub order : Order
  pub ordered : order_of pack_form words ≡ Ok order
  pub ticket : t ≡ order.ticket

-- ---- the report and the status

-- how many frames the capture has
abbrev pub frames_line : TicketFields → List ℕ → List ℕ
frames_line t file = codes "frames " ++ decimal (length (capture_frames t file)) ++ codes "\n"

-- the statuses of `pack`
abbrev pub IsPackStatus : ℕ → Type 0
IsPackStatus status = (status ≡ 1) ⊎ ((status ≡ 2) ⊎ ((status ≡ 4) ⊎ ((status ≡ 8) ⊎ ((status ≡ 9) ⊎ RanThrough status))))

-- ---- why it is refused while it runs

-- why a run is refused whose file can't be read
abbrev pub refusal_of : FileFault → Refusal
refusal_of file_fault.Read = Input
refusal_of (file_fault.Length got more) = Length got more

-- what is wrong with the source of a file of so many bytes
abbrev pub IsFaultOf : ℕ → Change SourceTold → FileFault → Type 0
IsFaultOf len source file_fault.Read = FailsWithinLength len source
IsFaultOf len source (file_fault.Length got more) =
    ReadsToLength len source × (wrong_length len (length (bytes_read source)) ≡ Some (got, more))

-- The words have an order, under whose ticket this is wrong with the source. The status and the report tell it.
pub record RefusesSource (words : List (List ℕ)) (source : Change SourceTold) (status : ℕ) (report : Change SinkTold) : Type 0 where
  pub order : Order
  pub ordered : order_of pack_form words ≡ Ok order
  pub fault : FileFault
  pub wrong : IsFaultOf order.ticket.length source fault
  pub refused : IsRefused (refusal_of fault) status report

-- ---- the promise

-- What a run of `pack` makes of its source and its two sinks, and which status it has.
pub record Packs (words : List (List ℕ)) (source : Change SourceTold) (file report : Change SinkTold) (status : ℕ) : Type 0 where
  -- Which status comes: 8 is want of memory, and 0 comes where no other status does.
  pub refusals : Refuses (order_of pack_form words) status report
  pub input_fault : CanCount source.old.faults → ((status ≡ 4) ↔ SourceFailed source)
  pub wrong_length : (order : Order) → order_of pack_form words ≡ Ok order → (status ≡ 8 → ⊥) → (status ≡ 4 → ⊥) → ((status ≡ 9) ↔ (length (bytes_read source) ≡ order.ticket.length → ⊥))
  pub output_fault : CanCount file.old.faults → CanCount report.old.faults → RanThrough status → ((status ≡ 5) ↔ (SinkFailed file ⊎ SinkFailed report))
  pub no_other_status : IsPackStatus status
  -- What was read: the file and the end after it, or one byte more, unless a read failed before.
  pub read_to_length : (order : Order) → order_of pack_form words ≡ Ok order → (status ≡ 8 → ⊥) → (status ≡ 4 → ⊥) → ReadsToLength order.ticket.length source
  pub failed_within_length : (order : Order) → order_of pack_form words ≡ Ok order → status ≡ 4 → FailsWithinLength order.ticket.length source
  -- The same where the source tells the bytes that it has left.
  pub remainder : (order : Order) → order_of pack_form words ≡ Ok order → (status ≡ 8 → ⊥) → (status ≡ 4 → ⊥) → IfSome source.old.left (λ bytes. LeavesAfterLength order.ticket.length bytes source)
  -- What the file's sink holds: the capture of the bytes that were read.
  pub written : (order : Order) → order_of pack_form words ≡ Ok order → RanThrough status → WasGiven (packed order.ticket (bytes_read source)) file
  -- What the report's sink holds, where `refusals` doesn't say it.
  pub source_refused : (status ≡ 4) ⊎ (status ≡ 9) → RefusesSource words source status report
  pub reported : (order : Order) → order_of pack_form words ≡ Ok order → RanThrough status → IsConcluded (frames_line order.ticket (bytes_read source)) status file report
