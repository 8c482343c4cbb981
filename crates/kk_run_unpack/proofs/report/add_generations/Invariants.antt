use Rattle.std.proofs.Common.{◌≡◌, length, take}
use Rattle.kk_outcome.specs.Outcome.{generation_lines}
use Rattle.kk_run_unpack.specs.Report.{outcomes}
use Rattle.kk_report.proofs.Blocks.{Added}
use Rattle.kk_run_unpack.proofs.report.add_generations.Given as goal

abbrev pub invariant-loop-number : goal.invariant-loop-number
invariant-loop-number g l = record {
  added : Added (g.P.Sink.told l.fn.report) (g.P.Sink.told l.report) l.fn.block l.block (generation_lines (take (length l.yielded) (outcomes l.spaces l.answers)));
  same : (g.P.Sink.told l.report).faults ≡ (g.P.Sink.told l.fn.report).faults;
}
