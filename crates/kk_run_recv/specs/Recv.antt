-- `recv`: all gates are received from at once, and the file goes out.
use Rattle.std.specs.Prelude.{◌≡◌, ◌⊎◌, ℕ, ◌+◌, ◌*◌, ◌≤◌, List, [], ◌∷◌, length, Option, Some, None, Ok, codes, option_map, vec_capacity}
use Rattle.std.specs.declared.alloc.Global.{Global}
use Rattle.std.specs.declared.vec.Vec.{Vec}
use Rattle.kk_outside.specs.Change.{Change}
use Rattle.kk_outside.specs.Gate.{GateTold}
use Rattle.kk_outside.specs.Sink.{SinkTold}
use Rattle.kk_code.specs.Ticket.{TicketFields}
use Rattle.kk_code.specs.TicketText.{IsTicket}
use Rattle.kk_frame.specs.declared.limits.Limits.{Limits}
use Rattle.kk_table.specs.Logs.{LogsView}
use Rattle.kk_workers.specs.declared.running.TheConstants.{MAX_GATES}
use Rattle.kk_workers.specs.declared.plan.Plan.{Plan}
use Rattle.kk_workers.specs.Runs.{ReceiverView}
use Rattle.kk_report.specs.Command.{IsRefusalOfWords, RanThrough}
use Rattle.kk_forms.specs.Form.{NumberOption, Word, Words}
use Rattle.kk_forms.specs.Request.{under}
use Rattle.kk_order.specs.declared.bound.Limit.TheVariants.{Exactly, Tolerated}
use Rattle.kk_order.specs.declared.order_form.TicketPlace.TheVariants.{First}
use Rattle.kk_order.specs.declared.words.TheConstants.{DATAGRAMS_LIMIT, QUIETS_LIMIT}
use Rattle.kk_order.specs.Order.{Order, OrderForm, number_of, order_of}
use Rattle.kk_order.specs.Refuses.{Refuses}
use Rattle.kk_run_recv.specs.Receiver.{IsReceiver}

-- ---- the words

-- The form of an order to receive: a ticket, the addresses to listen at, at most 16, when a gate is given up, and perhaps how
-- many injected dimensions of each generation are tolerated, for which k + 2 tolerated is at most l.
abbrev pub recv_form : OrderForm
recv_form = record {
  words = record {
    name = codes "recv";
    arguments = Word (codes "TICKET") ∷ Words (codes "LISTEN") ∷ NumberOption (codes "idle") (Some 300)
        ∷ NumberOption (codes "most") (Some 10000000) ∷ NumberOption (codes "tolerate") None ∷ [];
  };
  ticket = First;
  bounds = record { name = codes "idle"; least = 1; most = Exactly QUIETS_LIMIT }
      ∷ record { name = codes "most"; least = 1; most = Exactly DATAGRAMS_LIMIT }
      ∷ record { name = codes "tolerate"; least = 0; most = Tolerated } ∷ [];
  listeners = Some MAX_GATES;
}

-- when a gate is given up
abbrev pub limits_of : Order → Limits
limits_of order = record { idle = number_of order (codes "idle"); most = number_of order (codes "most") }

-- the rank at which a generation is closed: with a number of tolerated dimensions k + 2 tolerated, and else none
abbrev pub goal_of : TicketFields → Option ℕ → Option ℕ
goal_of t tolerated = option_map (λ n. t.code.k + 2 * n) tolerated

-- what a receiver is to do by an order
abbrev pub plan_of : Order → Plan
plan_of order = record { limits = limits_of order; goal = goal_of order.ticket (under order.numbers (codes "tolerate")) }

-- ---- the opening

-- what clauses see of a receiving: its order, and for how many gates it is
pub record ReceivingView : Type 0 where
  pub order : Order
  pub gates : ℕ

-- A receiver by this order, with what it is to do, room for the file, and for the logs.
pub record IsSetUp (order : Order) (plan : Plan) (receiver : ReceiverView) (bytes : List ℕ) (left : Vec LogsView Global) : Type 0 where
  pub is_ticket : IsTicket order.ticket
  pub ticket : receiver.ticket ≡ order.ticket
  pub plan_is : plan ≡ plan_of order
  pub some : (1 ≤ plan.limits.idle) × (1 ≤ plan.limits.most)
  pub room : length bytes ≡ order.ticket.length
  pub no_logs : (left.items ≡ []) × (1 ≤ vec_capacity left)

-- ---- the promise

-- the statuses of `recv`
abbrev pub IsRecvStatus : ℕ → Type 0
IsRecvStatus status = IsRefusalOfWords status ⊎ ((status ≡ 3) ⊎ ((status ≡ 6) ⊎ RanThrough status))

-- What a run of `recv` makes of the events of its gates, and which status it has.
pub record Receives (words : List (List ℕ)) (gates : List (Change GateTold)) (file report : Change SinkTold) (logs : List LogsView) (status : ℕ) : Type 0 where
  -- Which status comes of the words, and the report of a refusal.
  pub refusals : Refuses (order_of recv_form words) status report
  pub no_other_status : IsRecvStatus status
  -- Else file, report, status and logs are those of a receiver under the ticket.
  pub received : (order : Order) → order_of recv_form words ≡ Ok order → (IsRefusalOfWords status → ⊥) → IsReceiver order.ticket (plan_of order) gates file report logs status
