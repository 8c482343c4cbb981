-- What is sent in a trial: a file that the words of a generator make, and the frames of its generations after the channel,
-- dealt over gates. A data frame is the pair of its generation and its row.
use Rattle.std.specs.Prelude.{ℕ, ◌+◌, ◌*◌, ◌/◌, ◌%◌, ◌==◌, if◌then◌else◌, List, [], ◌∷◌, map, take, flat_map}
use Rattle.std.specs.List.{range_with_len}
use Rattle.std.specs.Int.{w64, to_be_bytes}
use Rattle.kk_code.specs.Codeword.{codeword}
use Rattle.kk_code.specs.Ticket.{TicketFields, generations}
use Rattle.kk_assemble.specs.FileBits.{cut}
use Rattle.kk_outside.specs.declared.event.Event.{Event}
use Rattle.kk_outside.specs.declared.event.Event.TheVariants.{Datagram}
use Rattle.kk_outside.specs.GateState.{GateState, unasked}
use Rattle.kk_frame.specs.Frame.{Vector, frame_text}
use Rattle.kk_channel.specs.Channel.{channel_rows, words_drawn}
use Rattle.kk_trial.specs.declared.operator_channel.OperatorChannel.{OperatorChannel}

-- ---- the file

-- how many words make a file of so many bytes
abbrev pub file_words : ℕ → ℕ
file_words length = (length + 7) / 8

-- the bytes of these words, each most significant first, without those beyond the length
abbrev pub made_file : ℕ → (ℕ → ℕ) → List ℕ
made_file length word = take length (flat_map (λ i. to_be_bytes w64 (word i)) (range_with_len 0 (file_words length)))

-- ---- the channel

-- how many words are drawn before those of generation g: the words of the file, and those of the generations before
abbrev pub words_before : TicketFields → OperatorChannel → ℕ → ℕ
words_before t channel g = file_words t.length + g * words_drawn t.code.l channel.inject

-- what comes out of the channel for the message of generation g, by the words that come next
abbrev pub received_rows : TicketFields → OperatorChannel → (ℕ → ℕ) → ℕ → List ℕ
received_rows t channel word g =
    let sent = codeword t.code (cut t.code (made_file t.length word) g) in
    channel_rows (λ i. word (words_before t channel g + i)) sent channel.erase channel.inject

-- the data frames of all generations, in order
abbrev pub trial_frames : TicketFields → OperatorChannel → (ℕ → ℕ) → List (ℕ × ℕ)
trial_frames t channel word =
    flat_map (λ g. map (λ r. (g, r)) (received_rows t channel word g)) (range_with_len 0 (generations t))

-- ---- the gates

-- the frames whose number is i modulo n, in order, where the first of them all is number `at`
unfoldable pub dealt_from : ℕ → ℕ → ℕ → List (ℕ × ℕ) → List (ℕ × ℕ)
dealt_from at n i [] = []
dealt_from at n i (frame ∷ frames) =
    if at % n == i then frame ∷ dealt_from (at + 1) n i frames else dealt_from (at + 1) n i frames

-- the frames that gate i of n gates gives: those whose number, counted from 0, is i modulo n
abbrev pub dealt : ℕ → ℕ → List (ℕ × ℕ) → List (ℕ × ℕ)
dealt n i frames = dealt_from 0 n i frames

-- the frames of all n gates, gate after gate
abbrev pub all_dealt : ℕ → List (ℕ × ℕ) → List (ℕ × ℕ)
all_dealt n frames = flat_map (λ i. dealt n i frames) (range_with_len 0 n)

-- each data frame as a datagram of its own, and no END
abbrev pub trial_events : TicketFields → List (ℕ × ℕ) → List Event
trial_events t frames = map (λ f. Datagram (frame_text t (Vector f.0 f.1))) frames

-- n gates that nobody has asked yet, over which the frames are dealt
abbrev pub trial_gates : TicketFields → OperatorChannel → ℕ → (ℕ → ℕ) → List GateState
trial_gates t channel n word =
    map (λ i. unasked (trial_events t (dealt n i (trial_frames t channel word)))) (range_with_len 0 n)
