-- Rows of bits, and places in them.
use Rattle.std.specs.Prelude.{◌≡◌, ℕ, ◌+◌, ◌-◌, ◌*◌, ◌<◌, ◌≤◌, Option, List, length, map, All, IfSome}
use Rattle.std.specs.List.{range_with_len}
use Rattle.std.specs.Int.{bit_at}
use Rattle.kk_code.specs.Codeword.{Parameters, IsMessage}
use Rattle.kk_assemble.specs.FileBits.{file_bit, message_bit}
use Rattle.kk_assemble.specs.Messages.{messages_or_empty}

-- the n bits of a number, the most significant first
abbrev pub bits_of : ℕ → ℕ → List ℕ
bits_of n x = map (λ i. bit_at x (n - 1 - i)) (range_with_len 0 n)

-- n bits of a row: bit at, bit (at + 1), ..
abbrev pub bits_from : (ℕ → ℕ) → ℕ → ℕ → List ℕ
bits_from bit at n = map bit (range_with_len at n)

-- a place between two bits of a file
pub record FilePlace : Type 0 where
  pub file : List ℕ
  pub at : ℕ

-- a place between two bits of messages
pub record MessagePlace : Type 0 where
  pub code : Parameters
  pub messages : List (List ℕ)
  pub at : ℕ

-- the queue has the bits of the file before byte `next`
pub record IsReadAhead (file : List ℕ) (next : ℕ) (queue : List ℕ) : Type 0 where
  pub read : length queue ≤ 8 * next
  pub queued : queue ≡ bits_from (file_bit file) (8 * next - length queue) (length queue)

-- the first bit of a symbol of a message, counted from the first of all messages
abbrev pub first_bit : Parameters → ℕ → ℕ → ℕ
first_bit p message symbol = (message * p.k + symbol) * p.field.degree

-- the queue has the bits of the messages before this symbol of this message
pub record AreReadAhead (p : Parameters) (answers : List (Option (List ℕ))) (message symbol : ℕ) (queue : List ℕ) : Type 0 where
  pub messages : All (λ answer. IfSome answer (IsMessage p)) answers
  pub symbol_below : symbol < p.k
  pub read : length queue ≤ first_bit p message symbol
  pub queued : queue ≡ bits_from (message_bit p (messages_or_empty answers)) (first_bit p message symbol - length queue) (length queue)
