use Rattle.std.proofs.Common.{ap}
use Rattle.atomic_table.specs.Table.{Me}
use Rattle.kk_table.specs.declared.view.View.{View}
use Rattle.kk_table.proofs.Seats.{takes_as}
use Rattle.kk_table.proofs.words.Words.take.Goals as goal

pub join_seat-requires : goal.join_seat-requires
join_seat-requires c =
    let table = c.requires.table in (
      table.0,
      table.1,
      ap (λ (m : Me (Unit {0}) View). m.1) c.requires.pass,
      table.2,
      takes_as _ _ _ _ _ _ _ _ _ (ap (λ (m : Me (Unit {0}) View). m.0) c.requires.founder.3) (ap (λ (m : Me (Unit {0}) View). m.0) c.requires.pass),
    )
