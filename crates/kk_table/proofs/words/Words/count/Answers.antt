use Rattle.kk_table.proofs.Seats.{counts_as}
use Rattle.kk_table.proofs.words.Words.count.Goals as goal

pub load-requires : goal.load-requires
load-requires c = (c.requires.table.0, c.requires.table.1, counts_as _ _ _ _ _ _ _ c.requires.founder.3)
