use Rattle.kk_decode.proofs.Losses.{part_is_within_the_radius}
use Rattle.kk_decode.proofs.laws.part_is_within_the_radius.Goals as goal

pub returns : goal.returns
returns c = part_is_within_the_radius
