use Rattle.std.proofs.Common.{◌≡◌, ◌++◌, take}
use Rattle.kk_rows.specs.Rows.{numbers}
use Rattle.kk_frame.specs.FrameView.{pairs}
use Rattle.kk_trial.proofs.Passed.{own_frames}
use Rattle.kk_trial.proofs.passing.push_rows.Given as goal

abbrev pub invariant-loop-row : goal.invariant-loop-row
invariant-loop-row l = pairs l.frames.items ≡ pairs l.fn.frames.items ++ own_frames l.generation (take l.row-index (numbers l.rows))
