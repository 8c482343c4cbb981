use Rattle.kk_trial.proofs.Rows.{trial_decodes_within_radius}
use Rattle.kk_trial.proofs.laws.trial_decodes_within_radius.Goals as goal

pub returns : goal.returns
returns c = trial_decodes_within_radius
