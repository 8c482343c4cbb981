use Rattle.kk_outside.specs.Change.{change}
use Rattle.kk_outside.proofs.Known.{WasGiven-written}
use Rattle.kk_report.specs.Status.{code_of}
use Rattle.kk_run_unpack.specs.Report.{outcome_report}
use Rattle.kk_run_unpack.proofs.report.report_capture.Goals as goal

pub returns-clause-given : goal.returns-clause-given
returns-clause-given g c =
    WasGiven-written (outcome_report (code_of c.args.status) c.args.counts.now c.args.spaces.now c.args.answers.now) (change (g.P.Sink.told c.args.report.now) (g.P.Sink.told c.write_report-outcome.new.report)) c.write_report-outcome.result c.write_report-outcome.ensures.writes c.write_report-outcome.ensures.cause
