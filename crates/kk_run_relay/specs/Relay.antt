-- `relay`: the data frames of a gate come in, and combinations of their rows go out.
use Rattle.std.specs.Prelude.{◌≡◌, ◌⊎◌, ◌↔◌, ℕ, ◌<◌, ◌==◌, Bool, true, false, List, [], ◌∷◌, ◌++◌, length, codes, slice_get, sum_by, Option, Some, None, IfSome, Result, Ok, Err}
use Rattle.std.specs.Fmt.{decimal}
use Rattle.kk_outside.specs.Causes.{CanCount}
use Rattle.kk_outside.specs.Change.{Change}
use Rattle.kk_outside.specs.Gate.{GateTold, GateFailed, events_told}
use Rattle.kk_outside.specs.Generator.{word_at}
use Rattle.kk_outside.specs.Outlet.{OutletTold, OutletFailed, IsCutShort, append_datagrams}
use Rattle.kk_outside.specs.Sink.{SinkTold, SinkFailed, WasGiven}
use Rattle.kk_outside.specs.declared.event.Event.{Event}
use Rattle.kk_code.specs.Ticket.{TicketFields}
use Rattle.kk_frame.specs.declared.frame.TheConstants.{FRAME_BYTES}
use Rattle.kk_frame.specs.declared.limits.Limits.{Limits}
use Rattle.kk_frame.specs.Asking.{AsksUpToStop, StopsThere}
use Rattle.kk_frame.specs.Events.{taken, counts}
use Rattle.kk_relay.specs.declared.relay.TheConstants.{MAX_RATE}
use Rattle.kk_relay.specs.Relaying.{relayed, relay_list}
use Rattle.kk_relay.specs.RelayState.{relay_after, rank}
use Rattle.kk_report.specs.declared.refusal.Refusal.{Refusal}
use Rattle.kk_report.specs.declared.refusal.Refusal.TheVariants.{Input, Outlet}
use Rattle.kk_order.specs.declared.words.TheConstants.{DATAGRAMS_LIMIT, QUIETS_LIMIT}
use Rattle.kk_report.specs.Command.{RanThrough}
use Rattle.kk_report.specs.Refusal.{IsRefused}
use Rattle.kk_report.specs.Report.{gate_line, concluded_text}
use Rattle.kk_order.specs.Order.{Cause, Listen, Order, OrderForm, number_of, order_of}
use Rattle.kk_order.specs.Refuses.{Refuses}
use Rattle.kk_order.specs.Seed.{stream_with}
use Rattle.kk_order.specs.declared.bound.Limit.TheVariants.{Exactly}
use Rattle.kk_order.specs.declared.order_form.TicketPlace.TheVariants.{First}
use Rattle.kk_forms.specs.Form.{NumberOption, TextOption, Word}
use Rattle.kk_relay.specs.declared.relayed.RelayFault.{RelayFault}
use Rattle.kk_relay.specs.declared.relayed.RelayFault.TheVariants as relay_fault

-- ---- the words

-- The form of an order to relay: a ticket, the address to send to and the one to listen at, the seed, at most 16 combinations for
-- each data frame, and when the gate is given up.
abbrev pub relay_form : OrderForm
relay_form = record {
  words = record {
    name = codes "relay";
    arguments = Word (codes "TICKET") ∷ Word (codes "TARGET") ∷ Word (codes "LISTEN") ∷ TextOption (codes "seed")
        ∷ NumberOption (codes "rate") (Some 1) ∷ NumberOption (codes "idle") (Some 300) ∷ NumberOption (codes "most") (Some 10000000) ∷ [];
  };
  ticket = First;
  bounds = record { name = codes "rate"; least = 0; most = Exactly MAX_RATE }
      ∷ record { name = codes "idle"; least = 1; most = Exactly QUIETS_LIMIT }
      ∷ record { name = codes "most"; least = 1; most = Exactly DATAGRAMS_LIMIT } ∷ [];
  listeners = None;
}

-- what a relay goes by: a ticket, the seed, how many combinations a data frame, and when the gate is given up
pub record Relaying : Type 0 where
  pub ticket : TicketFields
  pub seed : Option (List ℕ)
  pub rate : ℕ
  pub limits : Limits

-- what a relay goes by, by an order
abbrev pub relaying_of : Order → Relaying
relaying_of order = record {
  ticket = order.ticket;
  seed = order.seed;
  rate = number_of order (codes "rate");
  limits = record { idle = number_of order (codes "idle"); most = number_of order (codes "most") };
}

-- the answer of the words: an order is refused where no gate was handed in
abbrev pub answer_by : Bool → Result Order Cause → Result Order Cause
answer_by true (Ok order) = Err Listen
answer_by true (Err cause) = Err cause
answer_by false answer = answer

-- the answer of the words, where so many gates were handed in
abbrev pub answer_of : List (List ℕ) → ℕ → Result Order Cause
answer_of words gates = answer_by (gates == 0) (order_of relay_form words)

-- The words ask for this relay, where so many gates were handed in.
pub record AsksFor (words : List (List ℕ)) (gates : ℕ) (relaying : Relaying) : Type 0 where
  pub order : Order
  pub ordered : answer_of words gates ≡ Ok order
  pub same : relaying ≡ relaying_of order

-- ---- the datagrams

-- what is sent by an order of a gate with these events
unfoldable pub ordered_list : Relaying → List Event → List (List ℕ)
ordered_list order events = relay_list order.ticket order.limits order.rate (word_at (stream_with order.seed)) events

-- the data frames that are taken of the events
abbrev pub frames_taken : Relaying → List Event → List (ℕ × ℕ)
frames_taken order events = taken FRAME_BYTES order.ticket order.limits events

-- what is told of a gate with these events: its line, how many data frames were taken, the sum of the ranks, and how many
-- data frames were sent
unfoldable pub relay_lines : Relaying → List Event → List ℕ
relay_lines order events =
    gate_line 0 (counts FRAME_BYTES order.ticket order.limits events)
    ++ codes "relayed frames " ++ decimal (counts FRAME_BYTES order.ticket order.limits events).frames
    ++ codes " innovative " ++ decimal (sum_by rank (relay_after order.ticket (frames_taken order events)))
    ++ codes " sent " ++ decimal (length (relayed order.rate (word_at (stream_with order.seed)) (frames_taken order events))) ++ codes "\n"

-- ---- why it is refused while it runs

-- why a run is refused whose relay has stopped before its end
abbrev pub refusal_of : RelayFault → Refusal
refusal_of relay_fault.Gate = Input
refusal_of relay_fault.Outlet = Outlet

-- ---- the promise

-- What a run of `relay` over one gate by an order makes of it, of its report and of its outlet, and which status it has: 4
-- where the gate failed, 7 where the outlet did, and else 0, or 5 where the report did.
pub record RelaysBy (order : Relaying) (gate : Change GateTold) (report : Change SinkTold) (outlet : Change OutletTold) (status : ℕ) : Type 0 where
  -- Which status comes.
  pub input_fault : CanCount gate.old.faults → ((status ≡ 4) ↔ GateFailed gate)
  pub outlet_fault : CanCount outlet.old.faults → ((status ≡ 7) ↔ OutletFailed outlet)
  pub output_fault : CanCount report.old.faults → RanThrough status → ((status ≡ 5) ↔ SinkFailed report)
  pub no_other_status : (status ≡ 4) ⊎ ((status ≡ 7) ⊎ RanThrough status)
  -- What was asked of the gate: all up to its stop, and after a fault of the outlet no more than that.
  pub asked : AsksUpToStop order.ticket order.limits gate
  pub stop : (status ≡ 7 → ⊥) → StopsThere order.ticket order.limits gate
  -- What was sent: the relay's list, and after a fault of the outlet less, from its front.
  pub sent : (status ≡ 7 → ⊥) → outlet.new.sends ≡ append_datagrams outlet.old.sends (ordered_list order (events_told gate))
  pub cut_short : status ≡ 7 → IsCutShort outlet (ordered_list order (events_told gate))
  pub cut_short_of_all : status ≡ 7 → IfSome gate.old.left (λ events. IsCutShort outlet (ordered_list order events))
  -- What the report's sink holds: at 5 less than all of that.
  pub gate_refused : status ≡ 4 → IsRefused Input status report
  pub outlet_refused : status ≡ 7 → IsRefused Outlet status report
  pub reported : RanThrough status → WasGiven (concluded_text 0 (relay_lines order (events_told gate))) report

-- the first of the gates, before and after a run
abbrev pub FirstIs : Change (List GateTold) → Change GateTold → Type 0
FirstIs gates gate = (slice_get gates.old 0 ≡ Some gate.old) × (slice_get gates.new 0 ≡ Some gate.new)

-- What a run of `relay` makes of its gates, its report and its outlet, and which status it has.
pub record Relays (words : List (List ℕ)) (gates : Change (List GateTold)) (report : Change SinkTold) (outlet : Change OutletTold) (status : ℕ) : Type 0 where
  -- Which status comes before any call on a gate, and the report of a refusal.
  pub refusals : Refuses (answer_of words (length gates.old)) status report
  -- What the run over the first gate comes to; it is still the first of as many.
  pub runs : (order : Order) → order_of relay_form words ≡ Ok order → 0 < length gates.old → (status ≡ 8 → ⊥)
      → (gate : Change GateTold) × FirstIs gates gate × RelaysBy (relaying_of order) gate report outlet status
  pub same_gates : length gates.new ≡ length gates.old
