use Rattle.kk_outside.specs.Change.{change}
use Rattle.kk_outside.proofs.Known.{WasGiven-written}
use Rattle.kk_report.specs.Status.{code_of}
use Rattle.kk_run_recv.specs.Report.{receiver_report, logged_outcomes}
use Rattle.kk_run_recv.proofs.report.report_gates.Goals as goal

pub returns-clause-given : goal.returns-clause-given
returns-clause-given g c =
    WasGiven-written
    (receiver_report (code_of c.args.status) c.args.received.now.gates (logged_outcomes c.args.received.now.logs.shape.generations c.args.received.now.logs.logs c.args.received.now.answers) c.args.received.now.totals)
    (change (g.P.Sink.told c.args.report.now) (g.P.Sink.told c.write_received-outcome.new.report)) c.write_received-outcome.result c.write_received-outcome.ensures.writes c.write_received-outcome.ensures.cause
