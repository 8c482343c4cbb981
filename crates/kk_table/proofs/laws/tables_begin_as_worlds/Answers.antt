use Rattle.kk_table.proofs.Moves.{begins_as_world}
use Rattle.kk_table.proofs.laws.tables_begin_as_worlds.Goals as goal

pub returns : goal.returns
returns c = begins_as_world
