use Rattle.std.proofs.Common.{◌≡◌, take}
use Rattle.kk_outcome.specs.Outcome.{generation_lines}
use Rattle.kk_run_recv.specs.Report.{logged_outcomes}
use Rattle.kk_report.proofs.Blocks.{Added}
use Rattle.kk_run_recv.proofs.report.add_logs.Given as goal

abbrev pub invariant-loop-generation : goal.invariant-loop-generation
invariant-loop-generation g l = record {
  added : Added (g.P.Sink.told l.fn.report) (g.P.Sink.told l.report) l.fn.block l.block (generation_lines (take l.generation (logged_outcomes l.received.logs.shape.generations l.received.logs.logs l.received.answers)));
  same : (g.P.Sink.told l.report).faults ≡ (g.P.Sink.told l.fn.report).faults;
}
