use Rattle.std.proofs.Common.{◌≡◌, ℕ, ◌*◌, ◌<◌, length, get_or}
use Rattle.kk_assemble.specs.FileBits.{number_from, message_bit}
use Rattle.kk_assemble.specs.Messages.{messages_or_empty}
use Rattle.kk_assemble.proofs.joining.join.Given as goal

abbrev pub invariant-loop-i : goal.invariant-loop-i
invariant-loop-i l = record {
  place : l.bits ≡ record { code = l.ticket.code; messages = messages_or_empty l.answers; at = 64 * l.i };
  long : length l.out ≡ l.ticket.length;
  so_far : (k : ℕ) → k < 8 * l.i → get_or l.out k 0 ≡ number_from (message_bit l.ticket.code (messages_or_empty l.answers)) (8 * k) 8;
}
