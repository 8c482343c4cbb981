use Rattle.std.proofs.Common.{◌≡◌}
use Rattle.rand_core.specs.Stream.{Stream}
use Rattle.kk_outside.specs.Generator.{after_words, word_at}
use Rattle.kk_frame.specs.FrameView.{pairs}
use Rattle.kk_frame.proofs.Generations.{frames_from}
use Rattle.kk_trial.specs.Trial.{file_words, made_file, words_before, received_rows}
use Rattle.kk_trial.proofs.passing.pass_file.Given as goal

abbrev pub invariant-loop-generation : goal.invariant-loop-generation
invariant-loop-generation g l = record {
  frames : (start : Stream) → g.R.Rng.stream l.fn.rng ≡ after_words (file_words l.ticket.length) start → l.file ≡ made_file l.ticket.length (word_at start)
      → pairs l.frames.items ≡ frames_from (received_rows l.ticket l.channel (word_at start)) 0 l.generation;
  words : (start : Stream) → g.R.Rng.stream l.fn.rng ≡ after_words (file_words l.ticket.length) start
      → g.R.Rng.stream l.rng ≡ after_words (words_before l.ticket l.channel l.generation) start;
}
