use Rattle.kk_tables.proofs.LookUps.{looked_up-zeros}
use Rattle.kk_linpoly.proofs.lin_map.LinMap.new.Goals as goal

pub returns : goal.returns
returns c x = looked_up-zeros 2048 8 x
