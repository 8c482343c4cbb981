-- What is true of all files.
use Rattle.std.specs.Prelude.{◌≡◌, ℕ, ◌<◌, List, length, map, All}
use Rattle.std.specs.List.{range_with_len}
use Rattle.kk_code.specs.Codeword.{IsInRange}
use Rattle.kk_code.specs.Ticket.{TicketFields, generations}
use Rattle.kk_assemble.specs.FileBits.{cut, joined}

-- the messages of all generations
abbrev pub cuts : TicketFields → List ℕ → List (List ℕ)
cuts t file = map (cut t.code file) (range_with_len 0 (generations t))

-- The messages of all generations of a file make the file.
abbrev pub MessagesMakeTheFile : Type 0
MessagesMakeTheFile =
    (t : TicketFields) (file : List ℕ) → IsInRange t.code → length file ≡ t.length → All (λ b. b < 256) file →
    joined t.code t.length (cuts t file) ≡ file
