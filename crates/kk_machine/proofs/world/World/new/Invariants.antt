use Rattle.std.proofs.Common.{◌≡◌, ◌+◌, replicate}
use Rattle.kk_machine.specs.Worlds.{words_in}
use Rattle.kk_machine.proofs.world.World.new.Given as goal

abbrev pub invariant-loop : goal.invariant-loop
invariant-loop l = words_in l.words.items ≡ replicate l.counter (replicate (l.width + 1) 0)
