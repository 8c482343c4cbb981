use Rattle.std.proofs.Common.{◌≡◌, ◌*◌}
use Rattle.kk_outside.specs.Change.{change}
use Rattle.kk_outside.specs.Generator.{after_words, word_at}
use Rattle.kk_sender.specs.SentFrames.{sent_rows, data_frames}
use Rattle.kk_sender.specs.Sending.{IsPending}
use Rattle.kk_sender.proofs.send.send_file.Given as goal

abbrev pub invariant-loop-generation : goal.invariant-loop-generation
invariant-loop-generation g l = record {
  pending : IsPending l.ticket (change (g.O.Outlet.told l.fn.outlet) (g.O.Outlet.told l.outlet)) l.datagram
      (data_frames (sent_rows l.ticket l.file l.extra (word_at (g.R.Rng.stream l.fn.rng))) l.generation);
  stream : g.R.Rng.stream l.rng ≡ after_words (l.generation * l.extra) (g.R.Rng.stream l.fn.rng);
  same : (g.O.Outlet.told l.outlet).faults ≡ (g.O.Outlet.told l.fn.outlet).faults;
  frames_per_datagram : l.datagram.frames_per_datagram ≡ l.frames_per_datagram;
}
