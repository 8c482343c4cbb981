-- What `sim` promises at each of its ends.
use Rattle.std.proofs.Common.{◌≡◌, ◌⊎◌, inl, inr, ℕ, List, Ok, arith, subst}
use Rattle.kk_outside.specs.Change.{Change}
use Rattle.kk_outside.specs.Sink.{SinkTold, WasGiven}
use Rattle.kk_code.specs.Ticket.{TicketFields}
use Rattle.kk_table.specs.Logs.{LogsView}
use Rattle.kk_report.specs.Command.{IsRefusalOfWords, RanThrough}
use Rattle.kk_order.specs.Order.{Cause, IsRefusedFor, Order, order_of}
use Rattle.kk_order.specs.Refuses.{refused_text, status_of}
use Rattle.kk_order.specs.Seed.{words_of}
use Rattle.kk_order.proofs.Refusals.{refusal_status, same_order, words_accepted, words_refused}
use Rattle.kk_run_sim.specs.Simulation.{IsSimulation}
use Rattle.kk_run_sim.specs.Sim.{Simulates, gates_of, loss_of, sim_form}

-- the words are refused, or there is no memory
pub sim_refused : (words : List (List ℕ)) (cause : Cause) (report : Change SinkTold) (logs : List LogsView) (status : ℕ)
    → IsRefusedFor (order_of sim_form words) cause → status ≡ status_of cause → WasGiven (refused_text cause) report
    → Simulates words report logs status
sim_refused words cause report logs status why is given =
    let refused = refusal_status cause status is in
    record {
      refusals = words_refused (order_of sim_form words) cause status report why is given;
      no_other_status = inl refused;
      simulated = λ order ordered accepted. absurd (accepted refused);
    }

ran_on : (status : ℕ) → (status ≡ 3) ⊎ RanThrough status → IsRefusalOfWords status → ⊥
ran_on status is at_once = grind arith

-- a run by the order
pub sim_run : (words : List (List ℕ)) (order : Order) (report : Change SinkTold) (logs : List LogsView) (status : ℕ) → order_of sim_form words ≡ Ok order
    → IsSimulation order.ticket (loss_of order) (gates_of order) (words_of order.seed) report logs status → Simulates words report logs status
sim_run words order report logs status ordered run = record {
  refusals = words_accepted (order_of sim_form words) order status report ordered (ran_on status run.no_other_status);
  no_other_status = inr run.no_other_status;
  simulated = λ other others _.
      subst (λ (o : Order). IsSimulation o.ticket (loss_of o) (gates_of o) (words_of o.seed) report logs status)
      (same_order (order_of sim_form words) order other ordered others) run;
}

-- the simulation by the order, from what its numbers are
pub by_order : (order : Order) (t : TicketFields) (erase inject gates : ℕ) (words : ℕ → ℕ) (report : Change SinkTold) (logs : List LogsView) (status : ℕ)
    → t ≡ order.ticket → erase ≡ (loss_of order).erase → inject ≡ (loss_of order).inject → gates ≡ gates_of order
    → IsSimulation t (record { erase = erase; inject = inject }) gates words report logs status
    → IsSimulation order.ticket (loss_of order) (gates_of order) words report logs status
by_order order t erase inject gates words report logs status a b c d run =
    subst (λ n. IsSimulation order.ticket (loss_of order) n words report logs status) d
    (subst (λ n. IsSimulation order.ticket (record { erase = (loss_of order).erase; inject = n }) gates words report logs status) c
    (subst (λ n. IsSimulation order.ticket (record { erase = n; inject = inject }) gates words report logs status) b
    (subst (λ u. IsSimulation u (record { erase = erase; inject = inject }) gates words report logs status) a run)))
