use Rattle.std.proofs.Common.{◌^◌, ◌<◌, take}
use Rattle.std.specs.Prelude.{All}
use Rattle.kk_rows.specs.Rows.{numbers}
use Rattle.kk_code.specs.Codeword.{width}
use Rattle.kk_test_algebra.proofs.decode.are_rows_of.Given as goal

abbrev pub invariant-loop-row : goal.invariant-loop-row
invariant-loop-row l = record { below : All (λ r. r < 2 ^ width l.code) (numbers (take l.row-index l.rows)) }
