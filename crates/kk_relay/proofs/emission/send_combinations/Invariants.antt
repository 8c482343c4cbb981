use Rattle.std.proofs.Common.{◌≡◌, ℕ}
use Rattle.rand_core.specs.Stream.{Stream}
use Rattle.kk_rows.specs.Rows.{numbers}
use Rattle.kk_outside.specs.Change.{change}
use Rattle.kk_relay.specs.Progress.{AreSent}
use Rattle.kk_relay.specs.Relaying.{combinations}
use Rattle.kk_outside.specs.Generator.{after_words, word_at}
use Rattle.kk_relay.proofs.emission.send_combinations.Given as goal

abbrev pub invariant-loop : goal.invariant-loop
invariant-loop g l = record {
  sent : (start : Stream) (first : ℕ) → g.R.Rng.stream l.fn.rng ≡ after_words first start
      → AreSent l.ticket start first (combinations (word_at start) l.generation (numbers l.rows) first l.counter)
      (change (g.O.Outlet.told l.fn.outlet) (g.O.Outlet.told l.outlet)) (g.R.Rng.stream l.rng);
  same : (g.O.Outlet.told l.outlet).faults ≡ (g.O.Outlet.told l.fn.outlet).faults;
}
