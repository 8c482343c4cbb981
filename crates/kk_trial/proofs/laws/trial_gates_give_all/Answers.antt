use Rattle.kk_trial.proofs.Gates.{trial_gates_give_all}
use Rattle.kk_trial.proofs.laws.trial_gates_give_all.Goals as goal

pub returns : goal.returns
returns c = trial_gates_give_all
