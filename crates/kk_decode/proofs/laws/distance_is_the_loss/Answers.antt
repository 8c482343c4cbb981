use Rattle.kk_decode.proofs.Losses.{distance_is_the_loss}
use Rattle.kk_decode.proofs.laws.distance_is_the_loss.Goals as goal

pub returns : goal.returns
returns c = distance_is_the_loss
