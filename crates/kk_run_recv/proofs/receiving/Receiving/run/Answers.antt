use Rattle.std.proofs.Common.{◌∙◌, ◌≡◌, ◌++◌, ◌∷◌, [], ℕ, List, Option, ap, sym, subst}
use Rattle.kk_outside.specs.Change.{change}
use Rattle.kk_outside.specs.Sink.{WasGiven}
use Rattle.kk_code.specs.Ticket.{TicketFields, generations}
use Rattle.kk_table.specs.Logs.{LogsView}
use Rattle.kk_table.specs.declared.view.Shape.{Shape}
use Rattle.kk_workers.specs.Received.{changes, HasOneHistory, AddUp}
use Rattle.kk_workers.specs.declared.plan.Plan.{Plan}
use Rattle.kk_outcome.specs.Answers.{file_of}
use Rattle.kk_outcome.specs.Delivery.{IsDelivered}
use Rattle.kk_run_recv.specs.Receiver.{IsReceiver, some_fault}
use Rattle.kk_run_recv.specs.Recv.{ReceivingView, limits_of, plan_of}
use Rattle.kk_run_recv.specs.Report.{receiver_report, logged_outcomes}
use Rattle.kk_report.specs.Status.{code_of}
use Rattle.kk_run_recv.proofs.Receivers.{empty_file, is_receiver, none_received}
use Rattle.kk_run_recv.proofs.Recvs.{ran_after, ran_on}
use Rattle.kk_run_recv.proofs.receiving.Receiving.run.Goals as goal

pub returns-clause-receiver : goal.returns-clause-receiver
returns-clause-receiver g c =
    let set_up = c.self.invariant in
    let t = c.self.inside.order.ticket in
    let gates = changes g.G.Gate.told c.args.gates.now.items c.receive-received.new.gates.items in
    let r = c.receive-received.result in
    let file = change (g.K.Sink.told c.args.file.now) (g.K.Sink.told c.deliver-delivered.new.file) in
    let report = change (g.P.Sink.told c.args.report.now) (g.P.Sink.told c.report_gates-code.new.report) in
    let told = code_of c.status_after-status.result in
    let line = subst (λ (u : TicketFields). HasOneHistory u c.self.inside.plan gates r) set_up.ticket c.receive-received.ensures.one_history in
    let sums = subst (λ (u : TicketFields). AddUp u c.self.inside.plan gates r) set_up.ticket c.receive-received.ensures.add_up in
    let delivered = subst (λ (u : TicketFields). IsDelivered (file_of u c.answers.result.now) (code_of c.deliver-delivered.result) file) c.ticket.ensures c.deliver-delivered.ensures.delivered in
    let own = is_receiver t c.self.inside.plan gates r line sums set_up.is_ticket (code_of c.deliver-delivered.result) told c.report_gates-code.result file report
    (subst (λ (a : List (Option (List ℕ))). IsDelivered (file_of t a) (code_of c.deliver-delivered.result) file) c.answers.ensures delivered)
    c.status_after-status.ensures c.report_gates-code.ensures.same_or_five c.report_gates-code.ensures.five
    (subst (λ (k : ℕ). WasGiven (receiver_report told r.gates (logged_outcomes k r.logs.logs r.answers) r.totals) report) (ap (λ (s : Shape). s.generations) line.shape) c.report_gates-code.ensures.given)
    c.push_reserved.new.self.items
    (c.push_reserved.ensures.items ∙ ap (λ (l : List LogsView). l ++ c.into_logs.result ∷ []) set_up.no_logs.0 ∙ ap (λ (l : LogsView). l ∷ []) c.into_logs.ensures) in
    subst (λ (v : ReceivingView). IsReceiver v.order.ticket (plan_of v.order) gates file report c.push_reserved.new.self.items c.report_gates-code.result) c.self.view_is
    (subst (λ (p : Plan). IsReceiver t p gates file report c.push_reserved.new.self.items c.report_gates-code.result) set_up.plan_is own)

pub returns-clause-accepted : goal.returns-clause-accepted
returns-clause-accepted g c = ran_on c.report_gates-code.result (returns-clause-receiver g c).run.no_other_status

pub returns-clause-unwritten : goal.returns-clause-unwritten
returns-clause-unwritten g c = λ stopped.
    let r = c.receive-received.result in
    c.deliver-delivered.ensures.unwritten
    (λ ran. stopped (ran_after (code_of c.deliver-delivered.result) (code_of c.status_after-status.result) c.report_gates-code.result (some_fault r.gates) c.status_after-status.ensures c.report_gates-code.ensures.same_or_five ran))

pub returns-clause-no_bytes : goal.returns-clause-no_bytes
returns-clause-no_bytes g c = λ none.
    let set_up = c.self.invariant in
    let t = c.self.inside.order.ticket in
    let r = c.receive-received.result in
    let gates = changes g.G.Gate.told c.args.gates.now.items c.receive-received.new.gates.items in
    let same : t ≡ c.args.self.order.ticket = ap (λ (v : ReceivingView). v.order.ticket) c.self.view_is in
    let empty : t.length ≡ 0 = ap (λ (u : TicketFields). u.length) same ∙ none_received c.args.self.order.ticket (limits_of c.args.self.order) gates none in
    c.deliver-delivered.ensures.no_bytes
    ((λ i. file_of (c.ticket.ensures i) (c.answers.ensures i)) ∙ empty_file t r.answers set_up.is_ticket (c.receive-received.ensures.one_answer_each ∙ ap generations set_up.ticket) empty)
