-- `plan`: the source's bytes are counted, and the ticket of a file of that length goes out.
use Rattle.std.specs.Prelude.{◌≡◌, ◌↔◌, ◌⊎◌, ℕ, ◌-◌, ◌<◌, ◌≤◌, nat_lt, if◌then◌else◌, List, [], ◌∷◌, ◌++◌, length, codes, None, IfSome, Result, Ok, Err, refl}
use Rattle.kk_outside.specs.Causes.{CanCount}
use Rattle.kk_outside.specs.Change.{Change}
use Rattle.kk_outside.specs.Source.{AtEnd, Failed, SourceTold, SourceFailed, Took, bytes_read}
use Rattle.kk_outside.specs.Sink.{SinkTold, SinkFailed, WasGiven}
use Rattle.kk_code.specs.Ticket.{TicketFields, generations, for_length, ticket_text}
use Rattle.kk_code.specs.declared.ticket.TheConstants.{MAX_GENERATIONS}
use Rattle.kk_code.specs.declared.fault.TicketFault.TheVariants.{TooMany}
use Rattle.kk_report.specs.declared.refusal.Refusal.TheVariants.{Input}
use Rattle.kk_report.specs.Command.{RanThrough}
use Rattle.kk_report.specs.Refusal.{IsRefused}
use Rattle.kk_report.specs.Report.{IsConcluded}
use Rattle.kk_forms.specs.Form.{Word}
use Rattle.kk_order.specs.Order.{Cause, Order, OrderForm, Ticket, order_of, ticket_text_in}
use Rattle.kk_order.specs.Refuses.{Refuses}
use Rattle.kk_order.specs.declared.order_form.TicketPlace.TheVariants.{Parts}

-- ---- the words

-- the form of an order to plan: the ticket's parts, without its length
abbrev pub plan_form : OrderForm
plan_form = record {
  words = record {
    name = codes "plan";
    arguments = Word (codes "SESSION") ∷ Word (codes "M") ∷ Word (codes "MOD") ∷ Word (codes "L") ∷ Word (codes "K") ∷ [];
  };
  ticket = Parts;
  bounds = [];
  listeners = None;
}

-- The words ask to plan under this ticket.
pub record NamesTicket (words : List (List ℕ)) (t : TicketFields) : Type 0 where
  pub order : Order
  pub ordered : order_of plan_form words ≡ Ok order
  pub ticket : t ≡ order.ticket

-- ---- the source

-- a file of these bytes takes too many generations
abbrev pub IsTooLong : TicketFields → List ℕ → Type 0
IsTooLong t bytes = MAX_GENERATIONS < generations (for_length t (length bytes))

-- A file with fewer bytes than these takes not too many generations, and one of as many or more does.
abbrev pub IsFirstTooLong : TicketFields → ℕ → Type 0
IsFirstTooLong t size = (n : ℕ) → (n < size) ↔ (generations (for_length t n) ≤ MAX_GENERATIONS)

-- All bytes of the source were taken, and it was found at its end. They don't take too many generations.
pub record ReadsToEnd (t : TicketFields) (source : Change SourceTold) : Type 0 where
  pub took : Took (bytes_read source) (AtEnd ∷ []) source
  pub few : IsTooLong t (bytes_read source) → ⊥
  pub whole : IfSome source.old.left (λ bytes. bytes_read source ≡ bytes)

-- The bytes up to the first that makes too many generations were taken, and no read came after it.
pub record StopsAtLimit (t : TicketFields) (source : Change SourceTold) : Type 0 where
  pub took : Took (bytes_read source) [] source
  pub many : IsTooLong t (bytes_read source)
  pub first : generations (for_length t (length (bytes_read source) - 1)) ≤ MAX_GENERATIONS

-- A read failed, the last of all, before there were too many bytes.
pub record FailsBeforeEnd (t : TicketFields) (source : Change SourceTold) : Type 0 where
  pub took : Took (bytes_read source) (Failed ∷ []) source
  pub few : IsTooLong t (bytes_read source) → ⊥

-- ---- the promise

-- the ticket of these bytes, as it goes out
abbrev pub planned : TicketFields → List ℕ → List ℕ
planned t bytes = ticket_text (for_length t (length bytes)) ++ codes "\n"

-- the order, unless a file that takes so many generations has no ticket
abbrev pub order_unless_many : Order → ℕ → Result Order Cause
order_unless_many order count = if nat_lt MAX_GENERATIONS count then Err (Ticket (TooMany count)) else Ok order

-- the answer of the words: an order is refused for its ticket where a file of these bytes takes too many generations
abbrev pub answer_by : List ℕ → Result Order Cause → Result Order Cause
answer_by bytes (Ok order) = order_unless_many order (generations (for_length order.ticket (length bytes)))
answer_by bytes (Err cause) = Err cause

-- the answer of the words, where the source gave these bytes
abbrev pub answer_of : List (List ℕ) → List ℕ → Result Order Cause
answer_of words bytes = answer_by bytes (order_of plan_form words)

-- The words have an order, and a read failed before there were too many bytes. The status and the report tell it.
pub record RefusesSource (words : List (List ℕ)) (source : Change SourceTold) (status : ℕ) (report : Change SinkTold) : Type 0 where
  pub order : Order
  pub ordered : order_of plan_form words ≡ Ok order
  pub failed : FailsBeforeEnd order.ticket source
  pub refused : IsRefused Input status report

-- the statuses of `plan`
abbrev pub IsPlanStatus : ℕ → Type 0
IsPlanStatus status = (status ≡ 1) ⊎ ((status ≡ 2) ⊎ ((status ≡ 4) ⊎ ((status ≡ 8) ⊎ RanThrough status)))

-- What a run of `plan` makes of its source and its two sinks, and which status it has.
pub record Plans (words : List (List ℕ)) (source : Change SourceTold) (file report : Change SinkTold) (status : ℕ) : Type 0 where
  -- Which status comes: 8 is want of memory, and 0 comes where no other status does.
  pub refusals : Refuses (answer_of words (bytes_read source)) status report
  pub input_fault : CanCount source.old.faults → ((status ≡ 4) ↔ SourceFailed source)
  pub output_fault : CanCount file.old.faults → CanCount report.old.faults → RanThrough status → ((status ≡ 5) ↔ (SinkFailed file ⊎ SinkFailed report))
  pub no_other_status : IsPlanStatus status
  -- What was read: all bytes, or those up to the first that makes too many generations, unless a read failed before.
  pub read_to_end : (order : Order) → order_of plan_form words ≡ Ok order → RanThrough status → ReadsToEnd order.ticket source
  pub stopped : (order : Order) → order_of plan_form words ≡ Ok order → status ≡ 2 → StopsAtLimit order.ticket source
  pub failed_before_end : (order : Order) → order_of plan_form words ≡ Ok order → status ≡ 4 → FailsBeforeEnd order.ticket source
  -- What the file's sink holds: the ticket and a line feed.
  pub written : (order : Order) → order_of plan_form words ≡ Ok order → RanThrough status → WasGiven (planned order.ticket (bytes_read source)) file
  -- What the report's sink holds, where `refusals` doesn't say it.
  pub source_refused : status ≡ 4 → RefusesSource words source status report
  pub reported : (order : Order) → order_of plan_form words ≡ Ok order → RanThrough status → IsConcluded [] status file report

-- ---- worked

-- the text of five words
pub five_words : ticket_text_in plan_form.ticket (codes "00000001" ∷ codes "3" ∷ codes "0000000000000003" ∷ codes "3" ∷ codes "1" ∷ [])
    ≡ codes "kk1:00000001:3:0000000000000003:3:1:0"
five_words = refl

-- a file of 16,384 generations has a ticket, and one of more has none
pub as_many_as_there_are : (order : Order) → order_unless_many order 16384 ≡ Ok order
as_many_as_there_are order = refl

pub too_many : (order : Order) → order_unless_many order 16388 ≡ Err (Ticket (TooMany 16388))
too_many order = refl
