-- What is true of all trials, which the functions of `laws` prove.
use Rattle.std.specs.Prelude.{◌≡◌, ℕ, ◌+◌, ◌-◌, ◌*◌, ◌<◌, ◌≤◌, Some, List, [], length, All, flat_map, slice_index_or}
use Rattle.std.specs.List.Sorted.{IsPermutation}
use Rattle.kk_rows.specs.Span.{dimension, HaveSameSpan}
use Rattle.kk_rows.specs.declared.row_space.TheConstants.{MAX_WIDTH}
use Rattle.kk_code.specs.Decoding.{answer}
use Rattle.kk_code.specs.Ticket.{TicketFields, generations}
use Rattle.kk_code.specs.TicketText.{IsTicket}
use Rattle.kk_code.specs.declared.ticket.TheConstants.{MAX_GENERATIONS}
use Rattle.kk_assemble.specs.FileBits.{cut}
use Rattle.kk_outside.specs.GateState.{GateState, unasked}
use Rattle.kk_frame.specs.declared.frame.TheConstants.{FRAME_BYTES}
use Rattle.kk_frame.specs.declared.limits.Limits.{Limits}
use Rattle.kk_frame.specs.declared.gate_count.Ended.TheVariants.{Over}
use Rattle.kk_frame.specs.Events.{stop, taken, counts, refused_of}
use Rattle.kk_frame.specs.Frame.{Vector, IsFrame}
use Rattle.kk_frame.specs.Generation.{rows_of}
use Rattle.kk_channel.specs.Laws.{HasLoss}
use Rattle.kk_trial.specs.declared.operator_channel.OperatorChannel.{OperatorChannel}
use Rattle.kk_trial.specs.Trial.{made_file, received_rows, trial_frames, dealt, all_dealt, trial_events, trial_gates}

-- The code has as many dimensions as are erased, and as many as are injected.
pub record IsPossible (t : TicketFields) (channel : OperatorChannel) : Type 0 where
  pub erase : channel.erase ≤ t.code.l
  pub inject : channel.inject ≤ t.code.field.degree

-- ---- the file

-- The made file has as many bytes as were asked for.
abbrev pub MadeFileHasItsLength : Type 0
MadeFileHasItsLength =
    (len : ℕ) (word : ℕ → ℕ) → (length (made_file len word) ≡ len) × All (λ b. b < 256) (made_file len word)

-- ---- the rows of a generation

-- These rows lack exactly so many dimensions of the codeword of u and have exactly so many that are foreign to it, and none is in
-- the span of those before it. So many they are, and such is the dimension of all rows of their span.
pub record HaveTheLoss (t : TicketFields) (channel : OperatorChannel) (u rows : List ℕ) : Type 0 where
  pub lost : HasLoss t.code u rows channel.erase channel.inject
  pub count : length rows ≡ t.code.l - channel.erase + channel.inject
  pub rank : (others : List ℕ) → HaveSameSpan others rows → dimension others ≡ t.code.l - channel.erase + channel.inject

-- What comes out of the channel for a generation has exactly the loss, against the message of the file.
abbrev pub ReceivedRowsHaveTheLoss : Type 0
ReceivedRowsHaveTheLoss =
    (t : TicketFields) (channel : OperatorChannel) (word : ℕ → ℕ) (g : ℕ) → IsTicket t → IsPossible t channel →
    HaveTheLoss t channel (cut t.code (made_file t.length word) g) (received_rows t channel word g)

-- Where no more dimensions are erased and injected than the radius l - k, the rows of a generation, and all rows of their span,
-- decode to the message of the file.
abbrev pub TrialDecodesWithinRadius : Type 0
TrialDecodesWithinRadius =
    (t : TicketFields) (channel : OperatorChannel) (word : ℕ → ℕ) (g : ℕ) (rows : List ℕ) → IsTicket t → IsPossible t channel →
    channel.erase + channel.inject ≤ t.code.l - t.code.k → HaveSameSpan rows (received_rows t channel word g) →
    answer t.code rows ≡ Some (cut t.code (made_file t.length word) g)

-- ---- the frames of all generations

-- These are as many frames for each generation as rows come out of the channel, and each is a frame of the ticket. They are no more
-- than all generations of any ticket could have.
pub record AreFrames (t : TicketFields) (channel : OperatorChannel) (frames : List (ℕ × ℕ)) : Type 0 where
  pub count : length frames ≡ generations t * (t.code.l - channel.erase + channel.inject)
  pub few : length frames ≤ MAX_GENERATIONS * MAX_WIDTH
  pub in_range : All (λ f. IsFrame t (Vector f.0 f.1)) frames

-- The frames of a trial are so many, and all of the ticket.
abbrev pub TrialFramesAreFrames : Type 0
TrialFramesAreFrames =
    (t : TicketFields) (channel : OperatorChannel) (word : ℕ → ℕ) → IsTicket t → IsPossible t channel →
    AreFrames t channel (trial_frames t channel word)

-- ---- the gates

-- All gates together have the frames that were dealt, in another order, and none has more than all.
abbrev pub DealingIsAPermutation : Type 0
DealingIsAPermutation =
    (n : ℕ) (frames : List (ℕ × ℕ)) → 0 < n →
    IsPermutation frames (all_dealt n frames) × ((i : ℕ) → length (dealt n i frames) ≤ length frames)

-- the same rows in another order, which have the same span
pub record AreReordered (rows others : List ℕ) : Type 0 where
  pub permuted : IsPermutation rows others
  pub count : length others ≡ length rows
  pub spans : HaveSameSpan others rows

-- Over however many gates the frames are dealt, the rows of each generation are those that came out of the channel.
abbrev pub DealingKeepsRows : Type 0
DealingKeepsRows =
    (t : TicketFields) (channel : OperatorChannel) (word : ℕ → ℕ) (n g : ℕ) → 0 < n → g < generations t →
    AreReordered (received_rows t channel word g) (rows_of g (all_dealt n (trial_frames t channel word)))

-- The gate gives all of its events, and these frames are taken of them, one of each. Nothing is refused, and it ends by Over.
pub record GivesAll (t : TicketFields) (limits : Limits) (gate : GateState) (frames : List (ℕ × ℕ)) : Type 0 where
  pub stops : stop FRAME_BYTES t limits gate.left ≡ gate.left
  pub takes : taken FRAME_BYTES t limits gate.left ≡ frames
  pub count : counts FRAME_BYTES t limits gate.left ≡ record {
    ended = Some Over;
    datagrams = length frames;
    frames = length frames;
    refused = refused_of 0 [];
  }

-- Data frames of the ticket, each as a datagram of its own, are all taken where there may be more datagrams than there are frames,
-- and a quiet.
abbrev pub FramesAreTaken : Type 0
FramesAreTaken =
    (t : TicketFields) (limits : Limits) (frames : List (ℕ × ℕ)) → IsTicket t → All (λ f. IsFrame t (Vector f.0 f.1)) frames →
    1 ≤ limits.idle → length frames < limits.most → GivesAll t limits (unasked (trial_events t frames)) frames

-- These are n gates. Each gives the frames that were dealt to it, and so all of them, one after another, those that were dealt to all.
pub record GiveAllFrames (t : TicketFields) (limits : Limits) (n : ℕ) (frames : List (ℕ × ℕ)) (gates : List GateState) : Type 0 where
  pub count : length gates ≡ n
  pub each : (i : ℕ) (gate : GateState) → i < n → GivesAll t limits (slice_index_or gates i gate) (dealt n i frames)
  pub all : flat_map (λ gate. taken FRAME_BYTES t limits gate.left) gates ≡ all_dealt n frames

-- Where a gate may have more datagrams than all generations of any ticket have frames, and a quiet, the gates of a trial give all
-- frames.
abbrev pub TrialGatesGiveAll : Type 0
TrialGatesGiveAll =
    (t : TicketFields) (channel : OperatorChannel) (n : ℕ) (word : ℕ → ℕ) (limits : Limits) → IsTicket t → IsPossible t channel →
    1 ≤ limits.idle → MAX_GENERATIONS * MAX_WIDTH < limits.most →
    GiveAllFrames t limits n (trial_frames t channel word) (trial_gates t channel n word)

-- ---- what a receiver has in the end

-- These frames are so many, and all rows of the span of a generation's have the dimension of what came out of the channel. Where no
-- more dimensions are erased and injected than the radius l - k, such rows decode to the message of the file.
pub record AreReceived (t : TicketFields) (channel : OperatorChannel) (file : List ℕ) (frames : List (ℕ × ℕ)) : Type 0 where
  pub count : length frames ≡ generations t * (t.code.l - channel.erase + channel.inject)
  pub ranks : (g : ℕ) (rows : List ℕ) → g < generations t → HaveSameSpan rows (rows_of g frames) →
      dimension rows ≡ t.code.l - channel.erase + channel.inject
  pub answers : (g : ℕ) (rows : List ℕ) → g < generations t → channel.erase + channel.inject ≤ t.code.l - t.code.k →
      HaveSameSpan rows (rows_of g frames) → answer t.code rows ≡ Some (cut t.code file g)

-- What is taken of all gates of a trial, gate after gate, is what the file's generations became in the channel.
abbrev pub TrialIsReceived : Type 0
TrialIsReceived =
    (t : TicketFields) (channel : OperatorChannel) (n : ℕ) (word : ℕ → ℕ) (limits : Limits) → IsTicket t → IsPossible t channel → 0 < n →
    1 ≤ limits.idle → MAX_GENERATIONS * MAX_WIDTH < limits.most →
    AreReceived t channel (made_file t.length word) (flat_map (λ gate. taken FRAME_BYTES t limits gate.left) (trial_gates t channel n word))
