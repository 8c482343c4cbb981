use Rattle.kk_table.proofs.Moves.{steps_are_moves}
use Rattle.kk_table.proofs.laws.steps_are_moves.Goals as goal

pub returns : goal.returns
returns c = steps_are_moves
