use Rattle.std.proofs.Common.{◌≡◌, ◌≤◌, ℕ, ◌+◌, ◌*◌, List, ◌++◌, length, take}
use Rattle.rand_core.specs.Stream.{Stream}
use Rattle.kk_outside.specs.Change.{change}
use Rattle.kk_outside.specs.Outlet.{OutletTold}
use Rattle.kk_frame.specs.FrameView.{pairs}
use Rattle.kk_relay.specs.Progress.{HasRelayed}
use Rattle.kk_relay.specs.Relaying.{relayed}
use Rattle.kk_outside.specs.Generator.{word_at}
use Rattle.kk_relay.proofs.relay.Relay.relay_frames.Given as goal

abbrev pub invariant-loop-frame : goal.invariant-loop-frame
invariant-loop-frame g l = record {
  progress : (start : Stream) (before : List (ℕ × ℕ)) (origin : OutletTold)
      → HasRelayed l.ticket l.rate start before (change origin (g.O.Outlet.told l.fn.outlet)) l.fn.self (g.R.Rng.stream l.fn.rng)
      → HasRelayed l.ticket l.rate start (before ++ take l.frame-index (pairs l.frame-items)) (change origin (g.O.Outlet.told l.outlet)) l.self (g.R.Rng.stream l.rng);
  count : (start : Stream) (before : List (ℕ × ℕ)) (origin : OutletTold)
      → HasRelayed l.ticket l.rate start before (change origin (g.O.Outlet.told l.fn.outlet)) l.fn.self (g.R.Rng.stream l.fn.rng)
      → length (relayed l.rate (word_at start) (before ++ take l.frame-index (pairs l.frame-items))) ≡ length (relayed l.rate (word_at start) before) + l.sent;
  few : l.sent ≤ l.rate * l.frame-index;
  same : (g.O.Outlet.told l.outlet).faults ≡ (g.O.Outlet.told l.fn.outlet).faults;
}
