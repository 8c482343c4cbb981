use Rattle.std.specs.Box.{boxed_slice_items}
use Rattle.std.specs.Mem.Slots.{slots_items}
use Rattle.kk_table.specs.Logs.{IsRead}
use Rattle.kk_table.proofs.gen_table.GenTable.finish.Given as goal

abbrev pub invariant-loop-generation : goal.invariant-loop-generation
invariant-loop-generation l = IsRead l.shape (slots_items l.closed.words) l.generation (boxed_slice_items l.logs)
