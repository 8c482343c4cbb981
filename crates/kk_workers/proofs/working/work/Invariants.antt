use Rattle.kk_outside.specs.Change.{change}
use Rattle.kk_frame.specs.Intake.{calls_left}
use Rattle.kk_workers.specs.WorkerCalls.{SamePass}
use Rattle.kk_workers.specs.WorkerLoop.{IsInserter, IsUnderWay}
use Rattle.kk_workers.proofs.working.work.Given as goal

abbrev pub invariant-loop-buf : goal.invariant-loop-buf
invariant-loop-buf g l = record {
  same : SamePass l.fn.worker.pass l.worker-inside.inserter.pass;
  working : IsUnderWay l.ticket l.plan (change (g.G.Gate.told l.fn.worker.gate) (g.G.Gate.told l.worker-inside.gate)) l.intake l.worker-inside.inserter.pass.known.calls;
  inserter : IsInserter l.ticket l.worker-inside.inserter;
}

abbrev pub decreases-loop-buf : goal.decreases-loop-buf
decreases-loop-buf g l = calls_left l.intake
