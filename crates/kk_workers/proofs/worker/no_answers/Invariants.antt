use Rattle.std.proofs.Common.{◌≡◌, ◌≤◌, replicate, None, vec_len, vec_capacity}
use Rattle.kk_workers.proofs.worker.no_answers.Given as goal

abbrev pub invariant-loop-i : goal.invariant-loop-i
invariant-loop-i l = record {
  items : l.answers.items ≡ replicate l.i None;
  len : vec_len l.answers ≡ l.i;
  room : l.generations ≤ vec_capacity l.answers;
}
