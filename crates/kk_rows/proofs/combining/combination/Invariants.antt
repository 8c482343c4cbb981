use Rattle.std.proofs.Common.{◌≡◌, drop, bit_xor}
use Rattle.kk_rows.specs.Combination.{combination}
use Rattle.kk_rows.specs.Rows.{numbers}
use Rattle.kk_rows.proofs.combining.combination.Given as goal

abbrev pub invariant-loop-row : goal.invariant-loop-row
invariant-loop-row l = bit_xor l.sum (combination (numbers (drop l.row-index l.rows)) l.bits) ≡ combination (numbers l.fn.rows) l.fn.word
