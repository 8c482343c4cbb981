-- Words that are refused: the status and the report of a run, by why the words give no order.
use Rattle.std.specs.Prelude.{◌≡◌, ◌↔◌, ℕ, List, ◌++◌, Result, Err, codes}
use Rattle.std.specs.Fmt.{decimal}
use Rattle.kk_outside.specs.Change.{Change}
use Rattle.kk_outside.specs.Sink.{SinkTold, WasGiven}
use Rattle.kk_code.specs.declared.fault.TicketFault.{TicketFault}
use Rattle.kk_code.specs.declared.fault.TicketFault.TheVariants.{Shape, Range as PartOutOfRange, NotIrreducible, TooMany}
use Rattle.kk_report.specs.Command.{IsRefusalOfWords}
use Rattle.kk_report.specs.Report.{status_line}
use Rattle.kk_order.specs.Order.{Cause, IsRefusedFor, Order, Words, Ticket, Seed, Range, Listen, Memory}

-- the number of the status
abbrev pub status_of : Cause → ℕ
status_of Words = 1
status_of (Ticket fault) = 2
status_of Seed = 11
status_of (Range name) = 11
status_of Listen = 11
status_of Memory = 8

-- why a text is no ticket
abbrev pub ticket_text : TicketFault → List ℕ
ticket_text (Shape at) = codes "ticket shape " ++ decimal at
ticket_text (PartOutOfRange field) = codes "ticket range " ++ decimal field
ticket_text NotIrreducible = codes "ticket not irreducible"
ticket_text (TooMany generations) = codes "ticket too many generations " ++ decimal generations

-- the cause, as its report tells it
abbrev pub cause_text : Cause → List ℕ
cause_text Words = codes "words"
cause_text (Ticket fault) = ticket_text fault
cause_text Seed = codes "range seed"
cause_text (Range name) = codes "range " ++ name
cause_text Listen = codes "range listen"
cause_text Memory = codes "memory"

-- the whole report
abbrev pub refused_text : Cause → List ℕ
refused_text cause = cause_text cause ++ codes "\n" ++ status_line (status_of cause)

-- the run ended with the status of this cause, and its report is the cause's
abbrev pub TellsCause : Cause → ℕ → Change SinkTold → Type 0
TellsCause cause status report = (status ≡ status_of cause) × WasGiven (refused_text cause) report

-- the seed, a number or how many addresses there are is out of its range
abbrev pub IsRange : Cause → Type 0
IsRange Seed = Unit {0}
IsRange (Range name) = Unit {0}
IsRange Listen = Unit {0}
IsRange other = ⊥

-- How a run refuses its words, by the answer that they give. Where the status is not 8, which is want of memory, it tells the
-- cause, and the report has it.
pub record Refuses (answer : Result Order Cause) (status : ℕ) (report : Change SinkTold) : Type 0 where
  pub words_refused : (status ≡ 8 → ⊥) → ((status ≡ 1) ↔ (answer ≡ Err Words))
  pub ticket_refused : (status ≡ 8 → ⊥) → ((status ≡ 2) ↔ ((fault : TicketFault) × (answer ≡ Err (Ticket fault))))
  pub range_refused : (status ≡ 8 → ⊥) → ((status ≡ 11) ↔ ((cause : Cause) × IsRange cause × (answer ≡ Err cause)))
  pub refused : IsRefusalOfWords status → (cause : Cause) × IsRefusedFor answer cause × (status ≡ status_of cause) × WasGiven (refused_text cause) report
