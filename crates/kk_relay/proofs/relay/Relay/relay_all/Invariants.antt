use Rattle.kk_outside.specs.Change.{change}
use Rattle.kk_frame.specs.Intake.{calls_left}
use Rattle.kk_relay.proofs.Outcomes.{Run}
use Rattle.kk_relay.proofs.relay.Relay.relay_all.Given as goal

abbrev pub invariant-loop-buf : goal.invariant-loop-buf
invariant-loop-buf g l = Run l.ticket l.limits l.rate (g.R.Rng.stream l.fn.rng) (change (g.G.Gate.told l.fn.gate) (g.G.Gate.told l.gate)) (change (g.O.Outlet.told l.fn.outlet) (g.O.Outlet.told l.outlet)) l.intake l.self (g.R.Rng.stream l.rng) l.sent

abbrev pub decreases-loop-buf : goal.decreases-loop-buf
decreases-loop-buf g l = calls_left l.intake
