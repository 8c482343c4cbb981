use Rattle.std.proofs.Common.{◌≡◌, take}
use Rattle.kk_rows.specs.Rows.{numbers}
use Rattle.kk_sender.proofs.rows.plain_rows.Given as goal

abbrev pub invariant-loop-row : goal.invariant-loop-row
invariant-loop-row l = l.rows ≡ take l.row-index (numbers l.row-items)
