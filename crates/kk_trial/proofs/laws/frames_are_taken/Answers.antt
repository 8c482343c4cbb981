use Rattle.kk_trial.proofs.Gates.{frames_are_taken}
use Rattle.kk_trial.proofs.laws.frames_are_taken.Goals as goal

pub returns : goal.returns
returns c = frames_are_taken
