use Rattle.std.proofs.Common.{◌≡◌, ◌++◌, ◌∷◌, [], ℕ, List, Option, All, IfSome, length, is_some, ap, sym, subst, ◌∙◌, arith}
use Rattle.std.specs.List.{count_by}
use Rattle.kk_outside.specs.Change.{change}
use Rattle.kk_outside.specs.Sink.{WasGiven}
use Rattle.kk_code.specs.Codeword.{IsMessage}
use Rattle.kk_code.specs.Ticket.{TicketFields, generations}
use Rattle.kk_code.specs.TicketText.{IsTicket}
use Rattle.kk_order.specs.Order.{Order}
use Rattle.kk_order.specs.Seed.{words_of}
use Rattle.kk_table.specs.Logs.{LogsView}
use Rattle.kk_trial.specs.Trial.{made_file}
use Rattle.kk_outside.specs.GateState.{GateState, told}
use Rattle.kk_outcome.specs.Answers.{file_of}
use Rattle.kk_report.specs.Report.{concluded_text}
use Rattle.kk_workers.specs.Received.{changes, HasOneHistory, AddUp}
use Rattle.kk_run_sim.specs.Sim.{gates_of, loss_of}
use Rattle.kk_run_sim.specs.Simulation.{IsSimulation, summary, fate_of, status_of_fate, trial_plan}
use Rattle.kk_report.specs.Status.{code_of}
use Rattle.kk_run_sim.proofs.Simulations.{summary_by, length-trial_gates, is_simulation}
use Rattle.kk_run_sim.proofs.simulating.Simulating.run.Goals as goal

pub returns-clause-simulation : goal.returns-clause-simulation
returns-clause-simulation g c =
    let order = c.self.inside.order in
    let set_up = c.self.invariant in
    let t = order.ticket in
    let word = words_of order.seed in
    let r = c.receive-received.result in
    let after = c.receive-received.new.gates.items in
    let gates = changes told c.self.inside.trial.gates.items after in
    let report = change (g.P.Sink.told c.args.report.now) (g.P.Sink.told c.conclude-code.new.report) in
    let ticket : c.ticket-ticket.result.now ≡ t = c.ticket-ticket.ensures in
    let made : c.deref.result.now ≡ made_file t.length word = c.deref.ensures.value ∙ set_up.file_is in
    let fate : c.fate_of-fate.result ≡ fate_of (file_of t r.answers) (made_file t.length word) =
    c.fate_of-fate.ensures ∙ (λ i. fate_of (file_of (ticket i) (c.answers.ensures i)) (made i)) in
    let said = code_of c.status.result in
    let count : c.generations.result ≡ generations t = c.generations.ensures.count ∙ ap generations ticket in
    let lines : c.as_str.result.now ≡ summary (generations t) (count_by is_some r.answers) r.totals (fate_of (file_of t r.answers) (made_file t.length word)) =
    c.as_str.ensures.value ∙ c.summary_lines-lines.ensures.text
    ∙ summary_by c.fate_of-fate.result count (c.decoded.ensures ∙ ap (count_by is_some) c.answers-2.ensures) c.totals.ensures
    ∙ ap (summary (generations t) (count_by is_some r.answers) r.totals) fate in
    let line = subst (λ (u : TicketFields). HasOneHistory u trial_plan gates r) set_up.ticket c.receive-received.ensures.one_history in
    let sums = subst (λ (u : TicketFields). AddUp u trial_plan gates r) set_up.ticket c.receive-received.ensures.add_up in
    subst (λ (o : Order). IsSimulation o.ticket (loss_of o) (gates_of o) (words_of o.seed) report c.push_reserved.new.self.items c.conclude-code.result) c.self.view_is
    (is_simulation t (loss_of order) (gates_of order) word (subst IsTicket ticket c.generations.ensures.ticket) (record { erase = set_up.erase; inject = set_up.inject }) set_up.some
    c.self.inside.trial.gates.items after set_up.gates_are c.receive-received.ensures.same_gates
    r line sums said c.conclude-code.result report (c.status.ensures ∙ ap status_of_fate fate) c.conclude-code.ensures.same_or_five c.conclude-code.ensures.five
    (subst (λ l. WasGiven (concluded_text said l) report) lines c.conclude-code.ensures.given)
    c.push_reserved.new.self.items
    (c.push_reserved.ensures.items ∙ ap (λ (l : List LogsView). l ++ c.into_logs.result ∷ []) set_up.no_logs.0 ∙ ap (λ (l : LogsView). l ∷ []) c.into_logs.ensures))

pub receive-received-requires-clause-gates : goal.receive-received-requires-clause-gates
receive-received-requires-clause-gates g c κs within =
    let order = c.self.inside.order in
    ap (λ (l : List GateState). length l) c.self.invariant.gates_are ∙ length-trial_gates order.ticket (loss_of order) (gates_of order) (words_of order.seed)
    ∙ sym c.self.invariant.one_each

pub fate_of-fate-requires-clause-messages : goal.fate_of-fate-requires-clause-messages
fate_of-fate-requires-clause-messages g c =
    let ticket : c.self.inside.receiver.ticket ≡ c.ticket-ticket.result.now = c.self.invariant.ticket ∙ sym c.ticket-ticket.ensures in
    subst (λ (a : List (Option (List ℕ))). All (λ m. IfSome m (IsMessage c.ticket-ticket.result.now.code)) a) (sym c.answers.ensures)
    (subst (λ (t : TicketFields). All (λ m. IfSome m (IsMessage t.code)) c.receive-received.result.answers) ticket c.receive-received.ensures.one_history.messages)
