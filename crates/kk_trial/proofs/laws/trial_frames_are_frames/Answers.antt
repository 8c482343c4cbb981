use Rattle.kk_trial.proofs.Frames.{trial_frames_are_frames}
use Rattle.kk_trial.proofs.laws.trial_frames_are_frames.Goals as goal

pub returns : goal.returns
returns c = trial_frames_are_frames
