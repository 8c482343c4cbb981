use Rattle.std.proofs.Common.{◌<◌, ◌^◌, arith}
use Rattle.kk_rows.proofs.RowLists.{numbers_each}
use Rattle.kk_test_table.proofs.table.are_independent.Goals as goal

pub insert-requires : goal.insert-requires
insert-requires c = rw c.loop-row.invariant (numbers_each (λ r. r < 2 ^ 6) c.args.rows.now c.loop-row.row-index c.requires (omega arith))
