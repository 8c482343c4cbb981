use Rattle.std.proofs.Common.{◌≡◌, ◌+◌, ◌++◌, length}
use Rattle.rand_core.specs.Stream.{Stream}
use Rattle.kk_rows.specs.Rows.{numbers}
use Rattle.kk_outside.specs.Generator.{after_words, word_at}
use Rattle.kk_channel.specs.Channel.{injected_rows, words_drawn}
use Rattle.kk_channel.proofs.channel.inject_rows.Given as goal

abbrev pub invariant-loop-j : goal.invariant-loop-j
invariant-loop-j g l = record {
  rows : (start : Stream) → g.R.Rng.stream l.fn.rng ≡ after_words (length l.rows) start → l.passed ≡ l.fn.passed ++ injected_rows (word_at start) (numbers l.rows) l.j;
  words : (start : Stream) → g.R.Rng.stream l.fn.rng ≡ after_words (length l.rows) start → g.R.Rng.stream l.rng ≡ after_words (words_drawn (length l.rows) l.j) start;
  count : length l.passed ≡ length l.fn.passed + l.j;
}
