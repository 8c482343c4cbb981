use Rattle.std.proofs.Common.{length, sym, ap, ◌∙◌}
use Rattle.kk_assemble.proofs.BitRows.{length-bits_of}
use Rattle.kk_assemble.proofs.bit_queue.BitQueue.len.Goals as goal

pub returns-clause-count : goal.returns-clause-count
returns-clause-count c = sym (ap length (sym c.self.view_is) ∙ length-bits_of c.self.inside.len c.self.inside.bits)
