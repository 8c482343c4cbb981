use Rattle.std.proofs.Common.{◌≡◌, ℕ, ◌+◌, ◌*◌, ◌<◌, length, get_or}
use Rattle.kk_code.specs.Ticket.{message_bits}
use Rattle.kk_assemble.specs.FileBits.{symbol_of}
use Rattle.kk_assemble.proofs.cutting.cut.Given as goal

abbrev pub invariant-loop-symbol : goal.invariant-loop-symbol
invariant-loop-symbol l = record {
  len : length l.symbols ≡ l.ticket.code.k;
  place : l.bits ≡ record { file = l.file; at = l.generation * message_bits l.ticket.code + l.symbol-index * l.ticket.code.field.degree };
  so_far : (i : ℕ) → i < l.symbol-index → get_or l.symbols i 0 ≡ symbol_of l.ticket.code l.file l.generation i;
}
