use Rattle.std.proofs.Common.{◌≡◌}
use Rattle.kk_outside.specs.Generator.{after_words, word_at}
use Rattle.kk_trial.proofs.Files.{words_from}
use Rattle.kk_trial.proofs.making.make_file.Given as goal

abbrev pub invariant-loop : goal.invariant-loop
invariant-loop g l = record {
  bytes : l.file.items ≡ words_from (word_at (g.R.Rng.stream l.fn.rng)) 0 l.counter;
  words : g.R.Rng.stream l.rng ≡ after_words l.counter (g.R.Rng.stream l.fn.rng);
}
