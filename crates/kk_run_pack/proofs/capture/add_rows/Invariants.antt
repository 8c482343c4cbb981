use Rattle.std.proofs.Common.{◌≡◌, take}
use Rattle.kk_rows.specs.Rows.{numbers}
use Rattle.kk_sender.specs.SentFrames.{vectors, text_of}
use Rattle.kk_report.proofs.Blocks.{Added}
use Rattle.kk_run_pack.proofs.capture.add_rows.Given as goal

abbrev pub invariant-loop-row : goal.invariant-loop-row
invariant-loop-row g l = record {
  added : Added (g.K.Sink.told l.fn.sink) (g.K.Sink.told l.sink) l.fn.block l.block (text_of l.ticket (vectors l.generation (take l.row-index (numbers l.rows))));
  same : (g.K.Sink.told l.sink).faults ≡ (g.K.Sink.told l.fn.sink).faults;
}
