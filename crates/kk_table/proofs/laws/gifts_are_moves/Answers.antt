use Rattle.kk_table.proofs.Moves.{gifts_are_moves}
use Rattle.kk_table.proofs.laws.gifts_are_moves.Goals as goal

pub returns : goal.returns
returns c = gifts_are_moves
