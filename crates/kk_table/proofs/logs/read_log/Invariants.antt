use Rattle.std.proofs.Common.{◌≡◌, ◌+◌, ◌-◌, length, false}
use Rattle.std.specs.Mem.Slots.{slots_items}
use Rattle.kk_machine.specs.declared.log.Log.{Log}
use Rattle.kk_machine.specs.Steps.{Sees}
use Rattle.kk_table.specs.Logs.{Shows}
use Rattle.kk_table.proofs.logs.read_log.Given as goal

abbrev pub invariant-loop-generation : goal.invariant-loop-generation
invariant-loop-generation l = record {
  width : l.sight.width ≡ l.fn.shape.width;
  unclosed : l.sight.log.closed ≡ false;
  seen : (x : Log) → Shows l.fn.shape (slots_items l.fn.closed.words) l.generation x → Sees x l.sight.log;
}

abbrev pub decreases-loop-generation : goal.decreases-loop-generation
decreases-loop-generation l = (l.fn.shape.width + 1) - length l.sight.log.rows
