use Rattle.std.proofs.Common.{◌≡◌, ◌+◌, ◌*◌, ◌≤◌}
use Rattle.kk_code.proofs.Values.{rows_below}
use Rattle.kk_code.proofs.encoding.encode_with.Given as goal

abbrev pub invariant-loop-i : goal.invariant-loop-i
invariant-loop-i g l = (l.rows ≡ rows_below l.code l.u l.i) × (l.steps ≤ l.initial.steps + 2 * l.code.k * l.i)
