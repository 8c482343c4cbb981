use Rattle.std.proofs.Common.{◌≡◌, ◌+◌, ◌*◌, ◌≤◌, ◌++◌, length, take, map}
use Rattle.kk_rows.specs.Rows.{numbers}
use Rattle.kk_decode.specs.Solving.{point_of}
use Rattle.kk_decode.proofs.interpolate.give.Given as goal

abbrev pub invariant-loop-row : goal.invariant-loop-row
invariant-loop-row g l = record {
  field : l.interp.modulus ≡ l.initial.interp.modulus;
  k : l.interp.k ≡ l.initial.interp.k;
  points : l.interp.points ≡ l.initial.interp.points ++ map (point_of l.code.field) (numbers (take l.row-index l.rows));
  counted : l.steps ≤ l.fn.steps + l.row-index * (32 * (l.initial.interp.k + length l.initial.interp.points + length l.rows));
}
