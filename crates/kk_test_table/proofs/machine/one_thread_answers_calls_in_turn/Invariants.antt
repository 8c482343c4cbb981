use Rattle.std.proofs.Common.{◌≡◌, length}
use Rattle.kk_test_table.proofs.machine.one_thread_answers_calls_in_turn.Given as goal

abbrev pub invariant-loop-call : goal.invariant-loop-call
invariant-loop-call g l = (length l.spaces.logs ≡ 1) × (l.spaces.width ≡ 6)
