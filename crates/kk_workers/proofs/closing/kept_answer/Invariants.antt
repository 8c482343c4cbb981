use Rattle.std.proofs.Common.{◌≡◌, drop}
use Rattle.kk_workers.specs.Runs.{lists_in, kept_answer}
use Rattle.kk_workers.proofs.closing.kept_answer.Given as goal

abbrev pub invariant-loop-room : goal.invariant-loop-room
invariant-loop-room l = record {
  left : kept_answer (lists_in (drop l.room-index l.kept)) l.generation ≡ kept_answer (lists_in l.kept) l.generation;
}
