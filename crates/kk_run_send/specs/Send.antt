-- `send`: a file comes in, and goes out in datagrams.
use Rattle.std.specs.Prelude.{◌≡◌, ◌↔◌, ◌⊎◌, ℕ, ◌+◌, List, [], ◌∷◌, ◌++◌, length, codes, Option, Some, None, IfSome, Ok}
use Rattle.std.specs.Fmt.{decimal}
use Rattle.kk_outside.specs.Causes.{CanCount}
use Rattle.kk_outside.specs.Change.{Change}
use Rattle.kk_outside.specs.Source.{SourceTold, SourceFailed, bytes_read}
use Rattle.kk_outside.specs.Sink.{SinkTold, SinkFailed, WasGiven}
use Rattle.kk_outside.specs.Outlet.{OutletTold, OutletFailed, append_datagrams}
use Rattle.kk_code.specs.Ticket.{TicketFields, generations}
use Rattle.kk_frame.specs.declared.datagram.TheConstants.{MAX_DATAGRAM_FRAMES}
use Rattle.kk_sender.specs.declared.rows.TheConstants.{MAX_EXTRA}
use Rattle.kk_sender.specs.LengthRule.{wrong_length, ReadsToLength, FailsWithinLength, LeavesAfterLength}
use Rattle.kk_sender.specs.SentFrames.{sent_rows, data_frames, sent_datagrams}
use Rattle.kk_outside.specs.Outlet.{IsCutShort}
use Rattle.kk_sender.specs.declared.fault.SendFault.{SendFault}
use Rattle.kk_sender.specs.declared.fault.SendFault.TheVariants as send_fault
use Rattle.kk_report.specs.declared.refusal.Refusal.{Refusal}
use Rattle.kk_report.specs.declared.refusal.Refusal.TheVariants.{Input, Length, Outlet}
use Rattle.kk_report.specs.Command.{IsRefusalOfWords, RanThrough}
use Rattle.kk_report.specs.Refusal.{IsRefused}
use Rattle.kk_report.specs.Report.{concluded_text}
use Rattle.kk_forms.specs.Form.{NumberOption, TextOption, Word}
use Rattle.kk_order.specs.Order.{Order, OrderForm, number_of, order_of}
use Rattle.kk_order.specs.Refuses.{Refuses}
use Rattle.kk_order.specs.Seed.{words_of}
use Rattle.kk_order.specs.declared.bound.Limit.TheVariants.{Exactly}
use Rattle.kk_order.specs.declared.order_form.TicketPlace.TheVariants.{First}

-- ---- the words

-- The form of an order to send: the ticket, the target, the seed, how many combinations of each generation are sent, none
-- where no number is given, and how many frames a datagram has, 32 where no number is given.
abbrev pub send_form : OrderForm
send_form = record {
  words = record {
    name = codes "send";
    arguments = Word (codes "TICKET") ∷ Word (codes "TARGET") ∷ TextOption (codes "seed") ∷ NumberOption (codes "extra") (Some 0)
        ∷ NumberOption (codes "pack") (Some 32) ∷ [];
  };
  ticket = First;
  bounds = record { name = codes "extra"; least = 0; most = Exactly MAX_EXTRA } ∷ record { name = codes "pack"; least = 1; most = Exactly MAX_DATAGRAM_FRAMES } ∷ [];
  listeners = None;
}

-- how many combinations of each generation are sent; an order to send has this number
abbrev pub combinations : Order → ℕ
combinations order = number_of order (codes "extra")

-- how many frames a datagram has; an order to send has this number
abbrev pub datagram_frames : Order → ℕ
datagram_frames order = number_of order (codes "pack")

-- what a sender goes by: a ticket, the seed, how many combinations of each generation, and how many frames a datagram has
pub record Sending : Type 0 where
  pub ticket : TicketFields
  pub seed : Option (List ℕ)
  pub extra : ℕ
  pub frames_per_datagram : ℕ

-- what a sender goes by, by an order
abbrev pub sending_of : Order → Sending
sending_of order = record { ticket = order.ticket; seed = order.seed; extra = combinations order; frames_per_datagram = datagram_frames order }

-- The words ask for this sending.
pub record AsksFor (words : List (List ℕ)) (sending : Sending) : Type 0 where
  pub order : Order
  pub ordered : order_of send_form words ≡ Ok order
  pub same : sending ≡ sending_of order

-- A run with these words and this status sent by this order: it wasn't refused before.
pub record SendsBy (order : Order) (words : List (List ℕ)) (status : ℕ) : Type 0 where
  pub ordered : order_of send_form words ≡ Ok order
  pub accepted : IsRefusalOfWords status → ⊥

-- ---- the datagrams

-- what is sent of a file by an order
unfoldable pub ordered_datagrams : Order → List ℕ → List (List ℕ)
ordered_datagrams order file = sent_datagrams order.ticket file (combinations order) (datagram_frames order) (words_of order.seed)

-- how many frames that are, with END among them
unfoldable pub ordered_frames : Order → List ℕ → ℕ
ordered_frames order file = length (data_frames (sent_rows order.ticket file (combinations order) (words_of order.seed)) (generations order.ticket)) + 1

-- ---- why it is refused while it runs

-- why a run is refused whose file isn't sent
abbrev pub refusal_of : SendFault → Refusal
refusal_of send_fault.Read = Input
refusal_of (send_fault.Length got more) = Length got more
refusal_of send_fault.Outlet = Outlet

-- ---- the promise

-- why a run by an order is refused once its source was read
abbrev pub IsCauseOf : Order → Change SourceTold → Change OutletTold → Refusal → Type 0
IsCauseOf order source outlet Input = FailsWithinLength order.ticket.length source
IsCauseOf order source outlet (Length got more) =
    ReadsToLength order.ticket.length source × (wrong_length order.ticket.length (length (bytes_read source)) ≡ Some (got, more))
IsCauseOf order source outlet Outlet = IsCutShort outlet (ordered_datagrams order (bytes_read source))
IsCauseOf order source outlet other = ⊥

-- the statuses of `send`
abbrev pub IsSendStatus : ℕ → Type 0
IsSendStatus status = IsRefusalOfWords status ⊎ ((status ≡ 4) ⊎ ((status ≡ 7) ⊎ ((status ≡ 9) ⊎ RanThrough status)))

-- how much was sent
abbrev pub sent_line : Order → List ℕ → List ℕ
sent_line order file =
    codes "datagrams " ++ decimal (length (ordered_datagrams order file)) ++ codes " frames " ++ decimal (ordered_frames order file) ++ codes "\n"

-- What a run of `send` makes of its source, its report and its outlet, and which status it has.
pub record Sends (words : List (List ℕ)) (source : Change SourceTold) (report : Change SinkTold) (outlet : Change OutletTold) (status : ℕ) : Type 0 where
  -- Which status comes: 8 is want of memory, and 0 comes where no other status does.
  pub refusals : Refuses (order_of send_form words) status report
  pub input_fault : CanCount source.old.faults → ((status ≡ 4) ↔ SourceFailed source)
  pub wrong_length : (order : Order) → SendsBy order words status → (status ≡ 4 → ⊥) → ((status ≡ 9) ↔ (length (bytes_read source) ≡ order.ticket.length → ⊥))
  pub outlet_fault : CanCount outlet.old.faults → ((status ≡ 7) ↔ OutletFailed outlet)
  pub output_fault : CanCount report.old.faults → RanThrough status → ((status ≡ 5) ↔ SinkFailed report)
  pub no_other_status : IsSendStatus status
  -- What was read: the file and the end after it, or one byte more, unless a read failed before.
  pub read_to_length : (order : Order) → SendsBy order words status → (status ≡ 4 → ⊥) → ReadsToLength order.ticket.length source
  pub failed_within_length : (order : Order) → SendsBy order words status → status ≡ 4 → FailsWithinLength order.ticket.length source
  -- The same where the source tells the bytes that it has left.
  pub remainder : (order : Order) → SendsBy order words status → (status ≡ 4 → ⊥) → IfSome source.old.left (λ bytes. LeavesAfterLength order.ticket.length bytes source)
  -- What was sent: all datagrams, or fewer of them, from the front, where the outlet failed.
  pub sent : (order : Order) → SendsBy order words status → RanThrough status → outlet.new.sends ≡ append_datagrams outlet.old.sends (ordered_datagrams order (bytes_read source))
  pub prefix : (order : Order) → SendsBy order words status → status ≡ 7 → IsCutShort outlet (ordered_datagrams order (bytes_read source))
  -- What the report's sink holds where the words are not refused: at 5 less than all of that.
  pub refused : (IsRefusalOfWords status → ⊥) → (RanThrough status → ⊥)
      → (order : Order) × (order_of send_form words ≡ Ok order) × ((cause : Refusal) × IsCauseOf order source outlet cause × IsRefused cause status report)
  pub reported : (order : Order) → SendsBy order words status → RanThrough status → WasGiven (concluded_text 0 (sent_line order (bytes_read source))) report
