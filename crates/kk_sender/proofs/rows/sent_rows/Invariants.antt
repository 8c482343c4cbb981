use Rattle.std.proofs.Common.{◌≡◌, ℕ, ◌+◌, ◌≤◌, length}
use Rattle.rand_core.specs.Stream.{Stream}
use Rattle.kk_code.specs.declared.code.TheConstants.{MAX_POINTS}
use Rattle.kk_outside.specs.Generator.{after_words, word_at}
use Rattle.kk_sender.specs.SentFrames.{with_combinations}
use Rattle.kk_sender.proofs.rows.sent_rows.Given as goal

abbrev pub invariant-loop : goal.invariant-loop
invariant-loop g l = record {
  rows : (start : Stream) (first : ℕ) → g.R.Rng.stream l.fn.rng ≡ after_words first start → l.rows ≡ with_combinations (word_at start) l.codeword first l.counter;
  stream : (start : Stream) (first : ℕ) → g.R.Rng.stream l.fn.rng ≡ after_words first start → g.R.Rng.stream l.rng ≡ after_words (first + l.counter) start;
  few : length l.rows ≤ MAX_POINTS + l.counter;
}
