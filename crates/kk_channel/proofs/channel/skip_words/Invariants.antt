use Rattle.std.proofs.Common.{◌≡◌}
use Rattle.kk_outside.specs.Generator.{after_words}
use Rattle.kk_channel.proofs.channel.skip_words.Given as goal

abbrev pub invariant-loop : goal.invariant-loop
invariant-loop g l = g.R.Rng.stream l.rng ≡ after_words l.counter (g.R.Rng.stream l.fn.rng)
