use Rattle.std.proofs.Common.{subst}
use Rattle.kk_table.specs.Logs.{IsLogs}
use Rattle.kk_workers.specs.Received.{ReceivedView}
use Rattle.kk_workers.proofs.OneHistory.{one_history, add_up, one_count_each, one_answer_each}
use Rattle.kk_workers.proofs.receiver.Receiver.receive.Goals as goal

pub returns-clause-one_history : goal.returns-clause-one_history
returns-clause-one_history g c =
    one_history g.G.Gate.told c.args.self.ticket c.args.plan.now c.args.gates.now.items c.gather-received.new.gates.items c.gather-received.result c.gather-received.ensures
    (subst (λ (r : ReceivedView). IsLogs r.logs.shape r.logs.records r.logs.logs) c.received.view_is c.history.ensures)

pub returns-clause-add_up : goal.returns-clause-add_up
returns-clause-add_up g c =
    add_up g.G.Gate.told c.args.self.ticket c.args.plan.now c.args.gates.now.items c.gather-received.new.gates.items c.gather-received.result c.gather-received.ensures
    (subst (λ (r : ReceivedView). IsLogs r.logs.shape r.logs.records r.logs.logs) c.received.view_is c.history.ensures)

pub returns-clause-one_count_each : goal.returns-clause-one_count_each
returns-clause-one_count_each g c =
    one_count_each g.G.Gate.told c.args.self.ticket c.args.plan.now c.args.gates.now.items c.gather-received.new.gates.items c.gather-received.result c.gather-received.ensures
    (subst (λ (r : ReceivedView). IsLogs r.logs.shape r.logs.records r.logs.logs) c.received.view_is c.history.ensures)

pub returns-clause-one_answer_each : goal.returns-clause-one_answer_each
returns-clause-one_answer_each g c =
    one_answer_each g.G.Gate.told c.args.self.ticket c.args.plan.now c.args.gates.now.items c.gather-received.new.gates.items c.gather-received.result c.gather-received.ensures
    (subst (λ (r : ReceivedView). IsLogs r.logs.shape r.logs.records r.logs.logs) c.received.view_is c.history.ensures)
