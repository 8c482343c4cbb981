use Rattle.std.proofs.Common.{◌≡◌, ℕ, ◌<◌, length, get_or, None, IfSome}
use Rattle.kk_rows.specs.Space.{Space}
use Rattle.kk_code.specs.Codeword.{IsMessage}
use Rattle.kk_code.specs.Decoding.{answer}
use Rattle.kk_run_unpack.proofs.generations.answer_each.Given as goal

abbrev pub invariant-loop-number : goal.invariant-loop-number
invariant-loop-number l = record {
  one_each : length l.answers ≡ length l.spaces;
  answered : (j : ℕ) (space : Space) → j < l.number → (get_or l.answers j None ≡ answer l.code (get_or l.spaces j space).rows) × IfSome (get_or l.answers j None) (IsMessage l.code);
}
