use Rattle.std.proofs.Common.{◌+◌, ◌^◌, ◌<◌, ◌≤◌, length}
use Rattle.kk_decode.proofs.weights.value.Given as goal

abbrev pub invariant-loop-i : goal.invariant-loop-i
invariant-loop-i g l = record {
  value_below : l.value < 2 ^ l.field.degree;
  counted : l.steps + l.i ≤ l.fn.steps + length l.polynomial;
}
