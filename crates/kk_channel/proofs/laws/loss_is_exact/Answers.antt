use Rattle.kk_channel.proofs.Losses.{loss_is_exact}
use Rattle.kk_channel.proofs.laws.loss_is_exact.Goals as goal

pub returns : goal.returns
returns c = loss_is_exact
