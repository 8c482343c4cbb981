use Rattle.std.proofs.Common.{◌≡◌, ◌*◌}
use Rattle.kk_assemble.specs.FileBits.{file_bit, number_from}
use Rattle.kk_assemble.proofs.file_bits.word_at.Given as goal

-- the number of the bytes so far
abbrev pub invariant-loop-n : goal.invariant-loop-n
invariant-loop-n l = l.word ≡ number_from (file_bit l.file) (8 * l.at) (8 * l.n)
