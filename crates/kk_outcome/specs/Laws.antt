-- What is true of the files of all receivers, which the functions of `laws` prove.
use Rattle.std.specs.Prelude.{◌≡◌, ℕ, ◌+◌, ◌-◌, ◌<◌, ◌≤◌, Some, List, length, map, All}
use Rattle.std.specs.List.{range_with_len}
use Rattle.kk_rows.specs.Distance.{distance}
use Rattle.kk_code.specs.Codeword.{codeword}
use Rattle.kk_code.specs.Decoding.{answer}
use Rattle.kk_code.specs.Ticket.{TicketFields, generations}
use Rattle.kk_code.specs.TicketText.{IsTicket}
use Rattle.kk_assemble.specs.FileBits.{cut}
use Rattle.kk_outcome.specs.Answers.{file_of}

-- Each generation's space lies within distance l - k + 1 of the codeword of its message, one more than the radius.
abbrev pub AreOneBeyondAtMost : TicketFields → List ℕ → (ℕ → List ℕ) → Type 0
AreOneBeyondAtMost t sent space =
    (g : ℕ) → g < generations t → distance (codeword t.code (cut t.code sent g)) (space g) ≤ t.code.l - t.code.k + 1

-- Then the file that the spaces make is the one that was sent, or there is none.
abbrev pub OneBeyondIsNoOtherFile : Type 0
OneBeyondIsNoOtherFile =
    (t : TicketFields) (sent made : List ℕ) (space : ℕ → List ℕ) → IsTicket t → length sent ≡ t.length → All (λ b. b < 256) sent
    → AreOneBeyondAtMost t sent space → file_of t (map (λ g. answer t.code (space g)) (range_with_len 0 (generations t))) ≡ Some made
    → made ≡ sent
