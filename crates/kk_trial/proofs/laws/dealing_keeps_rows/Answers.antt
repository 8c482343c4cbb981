use Rattle.kk_trial.proofs.Frames.{dealing_keeps_rows}
use Rattle.kk_trial.proofs.laws.dealing_keeps_rows.Goals as goal

pub returns : goal.returns
returns c = dealing_keeps_rows
