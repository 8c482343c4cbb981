use Rattle.kk_trial.proofs.Received.{trial_is_received}
use Rattle.kk_trial.proofs.laws.trial_is_received.Goals as goal

pub returns : goal.returns
returns c = trial_is_received
