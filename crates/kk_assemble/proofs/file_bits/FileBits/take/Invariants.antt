use Rattle.std.proofs.Common.{◌≡◌, ◌+◌, ◌-◌, ◌*◌, length}
use Rattle.kk_assemble.specs.Bits.{bits_from}
use Rattle.kk_assemble.specs.FileBits.{file_bit}
use Rattle.kk_assemble.proofs.file_bits.FileBits.take.Given as goal

abbrev pub invariant-loop-self : goal.invariant-loop-self
invariant-loop-self l = record {
  file : l.self-inside.file.now ≡ l.fn.self.file;
  place : l.fn.self.at + length l.self-inside.queue ≡ 8 * l.self-inside.next;
  queued : l.self-inside.queue ≡ bits_from (file_bit l.fn.self.file) l.fn.self.at (length l.self-inside.queue);
}

abbrev pub decreases-loop-self : goal.decreases-loop-self
decreases-loop-self l = l.n - length l.self-inside.queue
