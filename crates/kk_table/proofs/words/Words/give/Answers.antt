use Rattle.std.proofs.Common.{ap}
use Rattle.atomic_table.specs.Table.{Me}
use Rattle.kk_table.specs.declared.view.View.{View}
use Rattle.kk_table.proofs.Seats.{gives_as}
use Rattle.kk_table.proofs.words.Words.give.Goals as goal

pub split_seat-requires : goal.split_seat-requires
split_seat-requires c =
    (c.requires.table.0, c.requires.table.1, gives_as _ _ _ _ _ _ c.requires.founder.3 (ap (λ (m : Me (Unit {0}) View). m.0) c.requires.founder.4))
