use Rattle.std.proofs.Common.{◌≡◌, take, fold}
use Rattle.kk_rows.specs.Echelon.{cleared}
use Rattle.kk_rows.specs.Rows.{numbers}
use Rattle.kk_rows.proofs.echelon.remainder.Given as goal

abbrev pub invariant-loop-row : goal.invariant-loop-row
invariant-loop-row g l = g.W.Word.number l.remainder ≡ fold cleared l.fn.v.0 (numbers (take l.row-index l.rows))
