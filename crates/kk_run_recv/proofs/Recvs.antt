-- What `recv` promises at each of its ends.
use Rattle.std.proofs.Common.{◌≡◌, ◌∙◌, ◌⊎◌, inl, inr, ℕ, Bool, List, Option, Ok, ap, arith, codes, subst}
use Rattle.kk_outside.specs.Change.{Change}
use Rattle.kk_outside.specs.Gate.{GateTold}
use Rattle.kk_outside.specs.Sink.{SinkTold, WasGiven}
use Rattle.kk_code.specs.Ticket.{TicketFields}
use Rattle.kk_table.specs.Logs.{LogsView}
use Rattle.kk_workers.specs.declared.plan.Plan.{Plan}
use Rattle.kk_report.specs.Command.{IsRefusalOfWords, RanThrough}
use Rattle.kk_forms.specs.Request.{under}
use Rattle.kk_order.specs.Order.{Cause, IsRefusedFor, Order, order_of}
use Rattle.kk_order.specs.Refuses.{refused_text, status_of}
use Rattle.kk_order.proofs.Refusals.{refusal_status, same_order, words_accepted, words_refused}
use Rattle.kk_run_recv.specs.Receiver.{IsReceiver, after_gates}
use Rattle.kk_run_recv.specs.Recv.{Receives, goal_of, limits_of, plan_of, recv_form}

-- the words are refused, or there is no memory
pub recv_refused : (words : List (List ℕ)) (cause : Cause) (gates : List (Change GateTold)) (file report : Change SinkTold) (logs : List LogsView) (status : ℕ)
    → IsRefusedFor (order_of recv_form words) cause → status ≡ status_of cause → WasGiven (refused_text cause) report
    → Receives words gates file report logs status
recv_refused words cause gates file report logs status why is given =
    let refused = refusal_status cause status is in
    record {
      refusals = words_refused (order_of recv_form words) cause status report why is given;
      no_other_status = inl refused;
      received = λ order ordered accepted. absurd (accepted refused);
    }

-- the status of a run is that of no refusal
pub ran_on : (status : ℕ) → (status ≡ 3) ⊎ ((status ≡ 6) ⊎ RanThrough status) → IsRefusalOfWords status → ⊥
ran_on status is at_once = grind arith

-- A run that delivered its file to the end ran through: neither gates nor report change that.
pub ran_after : (delivered told code : ℕ) (fault : Bool) → told ≡ after_gates delivered fault → (code ≡ told) ⊎ ((told ≡ 0) × (code ≡ 5)) → RanThrough delivered → RanThrough code
ran_after delivered told code fault is (inr five) ran = inr five.1
ran_after delivered told code fault is (inl same) (inl done) = inl (same ∙ is ∙ ap (λ n. after_gates n fault) done)
ran_after delivered told code fault is (inl same) (inr failed) = inr (same ∙ is ∙ ap (λ n. after_gates n fault) failed)

-- the plan of the order, from what its numbers are
pub by_order : (order : Order) (t : TicketFields) (idle most : ℕ) (tolerated goal : Option ℕ) → t ≡ order.ticket → idle ≡ (limits_of order).idle
    → most ≡ (limits_of order).most → tolerated ≡ under order.numbers (codes "tolerate") → goal ≡ goal_of t tolerated
    → ◌≡◌ {A = Plan} (record { limits = record { idle = idle; most = most }; goal = goal }) (plan_of order)
by_order order t idle most tolerated goal a b c d e =
    ap (λ o. record { limits = record { idle = idle; most = most }; goal = o }) (e ∙ ap (λ u. goal_of u tolerated) a ∙ ap (goal_of order.ticket) d)
    ∙ ap (λ n. record { limits = record { idle = n; most = most }; goal = (plan_of order).goal }) b
    ∙ ap (λ n. record { limits = record { idle = (limits_of order).idle; most = n }; goal = (plan_of order).goal }) c

-- a run by the order
pub recv_received : (words : List (List ℕ)) (order : Order) (t : TicketFields) (plan : Plan) (gates : List (Change GateTold)) (file report : Change SinkTold) (logs : List LogsView) (status : ℕ)
    → order_of recv_form words ≡ Ok order → t ≡ order.ticket → plan ≡ plan_of order → IsReceiver t plan gates file report logs status → Receives words gates file report logs status
recv_received words order t plan gates file report logs status ordered ticket_is plan_is run =
    let own = subst (λ (p : Plan). IsReceiver order.ticket p gates file report logs status) plan_is (subst (λ (x : TicketFields). IsReceiver x plan gates file report logs status) ticket_is run) in
    record {
      refusals = words_accepted (order_of recv_form words) order status report ordered (ran_on status run.run.no_other_status);
      no_other_status = inr run.run.no_other_status;
      received = λ other others _.
          subst (λ (o : Order). IsReceiver o.ticket (plan_of o) gates file report logs status) (same_order (order_of recv_form words) order other ordered others) own;
    }
