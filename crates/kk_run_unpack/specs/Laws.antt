-- What is true of all files, which the functions of `laws` prove.
use Rattle.std.specs.Prelude.{◌≡◌, ℕ, ◌<◌, ◌≤◌, Some, List, length, All}
use Rattle.kk_code.specs.Ticket.{TicketFields}
use Rattle.kk_code.specs.TicketText.{IsTicket}
use Rattle.kk_frame.specs.declared.gate_count.Ended.TheVariants.{End}
use Rattle.kk_sender.specs.SentFrames.{capture_frames, packed}
use Rattle.kk_outcome.specs.Answers.{frozen}
use Rattle.kk_outcome.specs.Laws.{AreOneBeyondAtMost}
use Rattle.kk_run_unpack.specs.Unpack.{unpacked, read_length, vectors_of, counts_of}

-- These bytes are read to their end, which is an END, and unpack to the file.
pub record UnpackTo (t : TicketFields) (most : ℕ) (file bytes : List ℕ) : Type 0 where
  pub file_is : unpacked t most bytes ≡ Some file
  pub whole : read_length t most bytes ≡ length bytes
  pub ended : (counts_of t most bytes).ended ≡ Some End

-- What `pack` writes of a file unpacks to the file, wherever as many pieces are taken as there are frames.
abbrev pub PackedFileUnpacks : Type 0
PackedFileUnpacks =
    (t : TicketFields) (file : List ℕ) (most : ℕ) → IsTicket t → length file ≡ t.length → All (λ b. b < 256) file
    → length (capture_frames t file) ≤ most → UnpackTo t most file (packed t file)

-- A capture unpacks to no other file than the one that was sent, where each generation's space lies within distance l - k + 1
-- of the codeword of its message, one more than the radius.
abbrev pub NoOtherFileUnpacks : Type 0
NoOtherFileUnpacks =
    (t : TicketFields) (sent made bytes : List ℕ) (most : ℕ) → IsTicket t → length sent ≡ t.length → All (λ b. b < 256) sent
    → AreOneBeyondAtMost t sent (frozen (vectors_of t most bytes)) → unpacked t most bytes ≡ Some made → made ≡ sent
