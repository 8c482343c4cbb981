use Rattle.std.proofs.Common.{◌≡◌}
use Rattle.kk_outside.specs.Change.{change}
use Rattle.kk_frame.specs.Intake.{calls_left}
use Rattle.kk_run_unpack.proofs.Receiving.{Received}
use Rattle.kk_run_unpack.proofs.receive.take_frames.Given as goal

abbrev pub invariant-loop-piece : goal.invariant-loop-piece
invariant-loop-piece g l = record {
  received : Received l.ticket l.most (change (g.S.Source.told l.fn.source) (g.S.Source.told l.source)) l.intake l.spaces;
  same : (g.S.Source.told l.source).faults ≡ (g.S.Source.told l.fn.source).faults;
}

abbrev pub decreases-loop-piece : goal.decreases-loop-piece
decreases-loop-piece g l = calls_left l.intake
