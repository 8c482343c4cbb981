use Rattle.std.proofs.Common.{◌≡◌, ◌≤◌, map, vec_len, vec_capacity}
use Rattle.std.specs.List.{range_with_len}
use Rattle.kk_workers.specs.Runs.{lists_in, closing_answer}
use Rattle.kk_workers.proofs.closing.decode_all.Given as goal

abbrev pub invariant-loop-generation : goal.invariant-loop-generation
invariant-loop-generation l = record {
  answers : l.answers.items ≡ map (closing_answer l.code (lists_in l.kept) l.pass.known) (range_with_len 0 l.generation);
  len : vec_len l.answers ≡ l.generation;
  room : l.generations ≤ vec_capacity l.answers;
}
