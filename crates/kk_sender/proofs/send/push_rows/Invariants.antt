use Rattle.std.proofs.Common.{◌≡◌, List, ◌++◌, take}
use Rattle.kk_rows.specs.Rows.{numbers}
use Rattle.kk_outside.specs.Change.{change}
use Rattle.kk_outside.specs.Outlet.{OutletTold}
use Rattle.kk_frame.specs.Frame.{FrameValue}
use Rattle.kk_sender.specs.SentFrames.{vectors}
use Rattle.kk_sender.specs.Sending.{IsPending}
use Rattle.kk_sender.proofs.send.push_rows.Given as goal

abbrev pub invariant-loop-row : goal.invariant-loop-row
invariant-loop-row g l = record {
  pending : (start : OutletTold) (frames : List FrameValue) → IsPending l.ticket (change start (g.O.Outlet.told l.fn.outlet)) l.fn.datagram frames
      → IsPending l.ticket (change start (g.O.Outlet.told l.outlet)) l.datagram (frames ++ vectors l.generation (take l.row-index (numbers l.rows)));
  same : (g.O.Outlet.told l.outlet).faults ≡ (g.O.Outlet.told l.fn.outlet).faults;
  frames_per_datagram : l.datagram.frames_per_datagram ≡ l.fn.datagram.frames_per_datagram;
}
