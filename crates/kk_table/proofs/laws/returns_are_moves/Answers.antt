use Rattle.kk_table.proofs.Moves.{returns_are_moves}
use Rattle.kk_table.proofs.laws.returns_are_moves.Goals as goal

pub returns : goal.returns
returns c = returns_are_moves
