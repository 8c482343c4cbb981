use Rattle.std.proofs.Common.{◌<◌, ◌^◌}
use Rattle.kk_rows.proofs.RowLists.{numbers_each}
use Rattle.kk_rows.proofs.echelon.remainder.Goals as goal

pub of-requires : goal.of-requires
of-requires g c = record { fits = numbers_each (λ row. row < 2 ^ g.W.Word.bits) c.args.rows.now c.loop-row.row-index c.requires.rows_fit c.loop-row-test.true }
