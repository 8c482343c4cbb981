use Rattle.std.proofs.Common.{◌≡◌, ◌+◌, ◌-◌, length}
use Rattle.kk_machine.specs.Spaces.{generation_of}
use Rattle.kk_table.specs.Rule.{sight}
use Rattle.kk_table.specs.Pass.{GoesOn}
use Rattle.kk_table.proofs.gen_table.GenTable.decide.Given as goal

abbrev pub invariant-loop-reply : goal.invariant-loop-reply
invariant-loop-reply l = record {
  table : l.pass.table ≡ l.fn.pass.table;
  goes_on : GoesOn (generation_of l.call) l.fn.pass.known l.pass.known;
  accesses : l.pass.known.accesses + length (sight l.fn.pass.known (generation_of l.call)).rows ≡ l.fn.pass.known.accesses + length (sight l.pass.known (generation_of l.call)).rows;
  calls : l.pass.known.calls ≡ l.fn.pass.known.calls;
}

abbrev pub decreases-loop-reply : goal.decreases-loop-reply
decreases-loop-reply l = l.self.shape.width - length (sight l.pass.known (generation_of l.call)).rows
