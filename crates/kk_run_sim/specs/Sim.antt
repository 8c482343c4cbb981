-- `sim`: a file from a seed goes through an operator channel to a receiver, and a summary comes out.
use Rattle.std.specs.Prelude.{◌≡◌, ◌⊎◌, ℕ, ◌≤◌, List, [], ◌∷◌, length, None, Ok, codes, vec_capacity}
use Rattle.std.specs.declared.alloc.Global.{Global}
use Rattle.std.specs.declared.vec.Vec.{Vec}
use Rattle.kk_outside.specs.Change.{Change}
use Rattle.kk_outside.specs.GateState.{GateState}
use Rattle.kk_outside.specs.Sink.{SinkTold}
use Rattle.kk_table.specs.Logs.{LogsView}
use Rattle.kk_trial.specs.declared.operator_channel.OperatorChannel.{OperatorChannel}
use Rattle.kk_trial.specs.Trial.{made_file, trial_gates}
use Rattle.kk_workers.specs.Runs.{ReceiverView}
use Rattle.kk_workers.specs.declared.running.TheConstants.{MAX_GATES}
use Rattle.kk_report.specs.Command.{IsRefusalOfWords, RanThrough}
use Rattle.kk_forms.specs.Form.{NumberWord, TextOption, Word}
use Rattle.kk_order.specs.declared.bound.Limit.TheVariants.{Degree, Exactly, Points}
use Rattle.kk_order.specs.declared.order_form.TicketPlace.TheVariants.{First}
use Rattle.kk_order.specs.Order.{Order, OrderForm, number_of, order_of}
use Rattle.kk_order.specs.Refuses.{Refuses}
use Rattle.kk_order.specs.Seed.{words_of}
use Rattle.kk_run_sim.specs.Simulation.{IsSimulation}

-- ---- the words

-- The form of an order to simulate: a ticket, how many dimensions are erased and injected, for how many gates, and the seed. At
-- most l dimensions are erased and at most m injected, and there are 1 to 16 gates.
abbrev pub sim_form : OrderForm
sim_form = record {
  words = record {
    name = codes "sim";
    arguments = Word (codes "TICKET") ∷ NumberWord (codes "erase") ∷ NumberWord (codes "inject") ∷ NumberWord (codes "gates")
        ∷ TextOption (codes "seed") ∷ [];
  };
  ticket = First;
  bounds = record { name = codes "erase"; least = 0; most = Points } ∷ record { name = codes "inject"; least = 0; most = Degree }
      ∷ record { name = codes "gates"; least = 1; most = Exactly MAX_GATES } ∷ [];
  listeners = None;
}

-- what the channel does to each generation
abbrev pub loss_of : Order → OperatorChannel
loss_of order = record { erase = number_of order (codes "erase"); inject = number_of order (codes "inject") }

-- how many gates the frames are dealt over
abbrev pub gates_of : Order → ℕ
gates_of order = number_of order (codes "gates")

-- ---- the opening

-- A trial by this order, with a file and gates of its own, a receiver for these gates, room for the file that is put together, and
-- for the logs.
pub record IsSetUp (order : Order) (file : List ℕ) (gates : List GateState) (receiver : ReceiverView) (bytes : List ℕ) (left : Vec LogsView Global) : Type 0 where
  pub erase : (loss_of order).erase ≤ order.ticket.code.l
  pub inject : (loss_of order).inject ≤ order.ticket.code.field.degree
  pub some : 1 ≤ gates_of order
  pub file_is : file ≡ made_file order.ticket.length (words_of order.seed)
  pub gates_are : gates ≡ trial_gates order.ticket (loss_of order) (gates_of order) (words_of order.seed)
  pub ticket : receiver.ticket ≡ order.ticket
  pub one_each : receiver.gates ≡ gates_of order
  pub room : length bytes ≡ order.ticket.length
  pub no_logs : (left.items ≡ []) × (1 ≤ vec_capacity left)

-- ---- the promise

-- the statuses of `sim`
abbrev pub IsSimStatus : ℕ → Type 0
IsSimStatus status = IsRefusalOfWords status ⊎ ((status ≡ 3) ⊎ RanThrough status)

-- What a run of `sim` makes of its words, and which status it has.
pub record Simulates (words : List (List ℕ)) (report : Change SinkTold) (logs : List LogsView) (status : ℕ) : Type 0 where
  -- Which status comes of the words, and the report of a refusal.
  pub refusals : Refuses (order_of sim_form words) status report
  pub no_other_status : IsSimStatus status
  -- Else report, status and logs are those of a run under the ticket, by the words of the seed's generator.
  pub simulated : (order : Order) → order_of sim_form words ≡ Ok order → (IsRefusalOfWords status → ⊥)
      → IsSimulation order.ticket (loss_of order) (gates_of order) (words_of order.seed) report logs status
