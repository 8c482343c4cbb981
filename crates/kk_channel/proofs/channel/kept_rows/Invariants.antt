use Rattle.std.proofs.Common.{◌≡◌, ◌≤◌, length, drop}
use Rattle.kk_rows.specs.Rows.{numbers}
use Rattle.kk_outside.specs.Generator.{after_words, word_at}
use Rattle.kk_channel.proofs.Mixing.{first_mixed}
use Rattle.kk_channel.proofs.channel.kept_rows.Given as goal

abbrev pub invariant-loop-i : goal.invariant-loop-i
invariant-loop-i g l = record {
  rows : l.kept ≡ drop l.erase (first_mixed (word_at (g.R.Rng.stream l.fn.rng)) (numbers l.rows) l.i);
  words : g.R.Rng.stream l.rng ≡ after_words l.i (g.R.Rng.stream l.fn.rng);
  few : length l.kept ≤ l.i;
}
