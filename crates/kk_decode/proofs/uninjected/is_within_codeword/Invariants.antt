use Rattle.std.proofs.Common.{◌+◌, ◌*◌, ◌≤◌, take}
use Rattle.std.specs.Prelude.{All}
use Rattle.kk_rows.specs.Rows.{numbers}
use Rattle.kk_decode.specs.Solving.{IsOnGraph}
use Rattle.kk_decode.proofs.uninjected.is_within_codeword.Given as goal

abbrev pub invariant-loop-row : goal.invariant-loop-row
invariant-loop-row g l = record {
  each : All (IsOnGraph l.code l.u) (numbers (take l.row-index l.row-items));
  counted : l.steps ≤ l.fn.steps + l.row-index * (2 * l.code.k);
}
