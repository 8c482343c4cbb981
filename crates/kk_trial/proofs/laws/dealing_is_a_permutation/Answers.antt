use Rattle.kk_trial.proofs.Frames.{dealing_is_a_permutation}
use Rattle.kk_trial.proofs.laws.dealing_is_a_permutation.Goals as goal

pub returns : goal.returns
returns c = dealing_is_a_permutation
