use Rattle.kk_trial.proofs.Rows.{received_rows_have_the_loss}
use Rattle.kk_trial.proofs.laws.received_rows_have_the_loss.Goals as goal

pub returns : goal.returns
returns c = received_rows_have_the_loss
