use Rattle.std.specs.Prelude.{All}
use Rattle.kk_outside.specs.Gate.{FitsGate}
use Rattle.kk_test_table.proofs.workers.gate_of.Given as goal

abbrev pub invariant-loop-each : goal.invariant-loop-each
invariant-loop-each g l = All FitsGate l.events.items
