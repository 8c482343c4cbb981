use Rattle.std.proofs.Common.{◌≡◌, []}
use Rattle.kk_report.proofs.Blocks.{Added}
use Rattle.kk_run_pack.proofs.Capturing.{text_to}
use Rattle.kk_run_pack.proofs.capture.write_capture.Given as goal

abbrev pub invariant-loop-generation : goal.invariant-loop-generation
invariant-loop-generation g l = record {
  added : Added (g.K.Sink.told l.fn.sink) (g.K.Sink.told l.sink) [] l.block (text_to l.ticket l.file l.generation);
  same : (g.K.Sink.told l.sink).faults ≡ (g.K.Sink.told l.fn.sink).faults;
}
