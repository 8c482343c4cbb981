use Rattle.kk_channel.proofs.Losses.{mixed_rows_are_a_basis}
use Rattle.kk_channel.proofs.laws.mixed_rows_are_a_basis.Goals as goal

pub returns : goal.returns
returns c = mixed_rows_are_a_basis
