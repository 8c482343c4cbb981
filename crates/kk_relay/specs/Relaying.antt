-- What a relay holds and sends, as functions of the data frames that it takes. A data frame is the pair of its generation and
-- its row.
use Rattle.std.specs.Prelude.{ℕ, ◌+◌, if◌then◌else◌, Option, List, [], ◌∷◌, ◌++◌, length, map}
use Rattle.std.specs.List.{range_with_len}
use Rattle.kk_rows.specs.Combination.{combination}
use Rattle.kk_rows.specs.Span.{innovative}
use Rattle.kk_code.specs.Ticket.{TicketFields}
use Rattle.kk_outside.specs.declared.event.Event.{Event}
use Rattle.kk_frame.specs.declared.frame.TheConstants.{FRAME_BYTES}
use Rattle.kk_frame.specs.declared.gate_count.Ended.{Ended}
use Rattle.kk_frame.specs.declared.limits.Limits.{Limits}
use Rattle.kk_frame.specs.Events.{taken, counts, ended_by_fault}
use Rattle.kk_frame.specs.Frame.{Vector, End, frame_text}
use Rattle.kk_frame.specs.Generation.{rows_of}

-- ---- rows

-- the innovative rows of generation g, in the order in which they came
abbrev pub held : List (ℕ × ℕ) → ℕ → List ℕ
held frames g = innovative (rows_of g frames)

-- how many combinations of these rows are sent for a data frame: none where there is no row
abbrev pub emissions : ℕ → List ℕ → ℕ
emissions rate [] = 0
emissions rate (row ∷ rows) = rate

-- n combinations of the rows of generation g, each by the next word, of which the first is word number `first`
abbrev pub combinations : (ℕ → ℕ) → ℕ → List ℕ → ℕ → ℕ → List (ℕ × ℕ)
combinations word g rows first n = map (λ i. (g, combination rows (word i))) (range_with_len first n)

-- ---- data frames

-- what is sent for a data frame that comes after the data frames `before`, by the words from number `first` on
abbrev pub sent_for : ℕ → (ℕ → ℕ) → ℕ → List (ℕ × ℕ) → ℕ × ℕ → List (ℕ × ℕ)
sent_for rate word first before frame =
    let rows = held (before ++ frame ∷ []) frame.0 in
    combinations word frame.0 rows first (emissions rate rows)

-- the same for data frames one after another; each that is sent takes one word
unfoldable pub sent_after : ℕ → (ℕ → ℕ) → ℕ → List (ℕ × ℕ) → List (ℕ × ℕ) → List (ℕ × ℕ)
sent_after rate word first before [] = []
sent_after rate word first before (frame ∷ frames) =
    let sent = sent_for rate word first before frame in
    sent ++ sent_after rate word (first + length sent) (before ++ frame ∷ []) frames

-- the data frames that a relay sends for those that it takes
abbrev pub relayed : ℕ → (ℕ → ℕ) → List (ℕ × ℕ) → List (ℕ × ℕ)
relayed rate word frames = sent_after rate word 0 [] frames

-- ---- datagrams

-- each data frame as a datagram of its own
abbrev pub datagrams_of : TicketFields → List (ℕ × ℕ) → List (List ℕ)
datagrams_of t frames = map (λ frame. frame_text t (Vector frame.0 frame.1)) frames

-- what comes after the data frames of a gate that ended so: END, unless the gate failed
abbrev pub last_datagrams : TicketFields → Option Ended → List (List ℕ)
last_datagrams t ended = if ended_by_fault ended then [] else frame_text t End ∷ []

-- the relay's list: what it sends of a gate with these events
abbrev pub relay_list : TicketFields → Limits → ℕ → (ℕ → ℕ) → List Event → List (List ℕ)
relay_list t limits rate word events =
    datagrams_of t (relayed rate word (taken FRAME_BYTES t limits events))
    ++ last_datagrams t (counts FRAME_BYTES t limits events).ended
