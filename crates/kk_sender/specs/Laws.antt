-- What is true of all files, which the functions of `laws` prove.
use Rattle.std.specs.Prelude.{◌≡◌, ℕ, List, ◌∷◌, ◌++◌, []}
use Rattle.kk_code.specs.Ticket.{TicketFields, generations}
use Rattle.kk_frame.specs.Frame.{End}
use Rattle.kk_sender.specs.SentFrames.{sent_rows, data_frames, text_of, packed}

-- A capture is what a sender sends without combinations, before it is cut into datagrams.
abbrev pub CaptureIsSentPlain : Type 0
CaptureIsSentPlain =
    (t : TicketFields) (file : List ℕ) (word : ℕ → ℕ) →
    text_of t (data_frames (sent_rows t file 0 word) (generations t) ++ End ∷ []) ≡ packed t file
