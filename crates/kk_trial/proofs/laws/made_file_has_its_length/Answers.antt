use Rattle.kk_trial.proofs.Files.{made_file_has_its_length}
use Rattle.kk_trial.proofs.laws.made_file_has_its_length.Goals as goal

pub returns : goal.returns
returns c = made_file_has_its_length
