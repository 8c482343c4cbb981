use Rattle.kk_table.specs.Founder.{IsFresh}
use Rattle.kk_table.proofs.founder.storage.Given as goal

abbrev pub invariant-loop : goal.invariant-loop
invariant-loop l = IsFresh l.shape.width l.counter l.seen.items
