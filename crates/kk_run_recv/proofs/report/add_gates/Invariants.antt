use Rattle.std.proofs.Common.{◌≡◌, take}
use Rattle.kk_outcome.specs.Outcome.{gate_lines_from}
use Rattle.kk_report.proofs.Blocks.{Added}
use Rattle.kk_run_recv.proofs.report.add_gates.Given as goal

abbrev pub invariant-loop-i : goal.invariant-loop-i
invariant-loop-i g l = record {
  added : Added (g.P.Sink.told l.fn.report) (g.P.Sink.told l.report) l.fn.block l.block (gate_lines_from 0 (take l.i l.received.gates));
  same : (g.P.Sink.told l.report).faults ≡ (g.P.Sink.told l.fn.report).faults;
}
