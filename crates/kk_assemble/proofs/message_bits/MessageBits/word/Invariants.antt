use Rattle.std.proofs.Common.{◌≡◌, ◌+◌, ◌-◌, ◌<◌, length, All, IfSome}
use Rattle.kk_code.specs.Codeword.{IsMessage}
use Rattle.kk_assemble.specs.Bits.{bits_from, first_bit}
use Rattle.kk_assemble.specs.FileBits.{message_bit}
use Rattle.kk_assemble.specs.Messages.{messages_or_empty}
use Rattle.kk_assemble.proofs.message_bits.MessageBits.word.Given as goal

abbrev pub invariant-loop-self : goal.invariant-loop-self
invariant-loop-self l = record {
  code : l.self-inside.code ≡ l.fn.self.code;
  same : messages_or_empty l.self-inside.answers.now ≡ l.fn.self.messages;
  messages : All (λ answer. IfSome answer (IsMessage l.fn.self.code)) l.self-inside.answers.now;
  symbol_below : l.self-inside.next.symbol < l.fn.self.code.k;
  place : l.fn.self.at + length l.self-inside.queue ≡ first_bit l.fn.self.code l.self-inside.next.message l.self-inside.next.symbol;
  queued : l.self-inside.queue ≡ bits_from (message_bit l.fn.self.code l.fn.self.messages) l.fn.self.at (length l.self-inside.queue);
}

abbrev pub decreases-loop-self : goal.decreases-loop-self
decreases-loop-self l = 64 - length l.self-inside.queue
