-- How far a relay has come.
use Rattle.std.specs.Prelude.{◌≡◌, ◌⊎◌, ℕ, ◌+◌, ◌-◌, ◌<◌, ◌≤◌, List, length, take}
use Rattle.rand_core.specs.Stream.{Stream}
use Rattle.kk_outside.specs.Change.{Change}
use Rattle.kk_outside.specs.Outlet.{OutletTold, append_datagrams, append_failing}
use Rattle.kk_code.specs.Ticket.{TicketFields}
use Rattle.kk_relay.specs.Relaying.{relayed, datagrams_of}
use Rattle.kk_relay.specs.RelayState.{BasisState, relay_after}
use Rattle.kk_outside.specs.Generator.{after_words, word_at}

-- ---- data frames that are sent

-- These data frames were sent, each by a word of `start`, the first by word number `first`.
pub record AreSent (t : TicketFields) (start : Stream) (first : ℕ) (frames : List (ℕ × ℕ)) (outlet : Change OutletTold) (words : Stream) : Type 0 where
  pub sent : outlet.new.sends ≡ append_datagrams outlet.old.sends (datagrams_of t frames)
  pub drawn : words ≡ after_words (first + length frames) start

-- Of these data frames the first n were sent, the first by word number `first`; the next send failed, and it was the last.
pub record AreCut (t : TicketFields) (start : Stream) (first n : ℕ) (frames : List (ℕ × ℕ)) (outlet : Change OutletTold) (words : Stream) : Type 0 where
  pub few : n < length frames
  pub sent : outlet.new.sends ≡ append_failing outlet.old.sends (take n (datagrams_of t frames))
  pub drawn : words ≡ after_words (first + n + 1) start

-- ---- data frames that are taken

-- These data frames were taken, and all that is sent for them went out, by the words of `start`.
pub record HasRelayed (t : TicketFields) (rate : ℕ) (start : Stream) (frames : List (ℕ × ℕ)) (outlet : Change OutletTold) (relay : List BasisState) (words : Stream) : Type 0 where
  pub holds : relay ≡ relay_after t frames
  pub sent : AreSent t start 0 (relayed rate (word_at start) frames) outlet words

-- A send failed, of what is sent for these data frames. Those up to the one that it was for were taken, `count` of them.
pub record BreaksOff (t : TicketFields) (rate : ℕ) (start : Stream) (frames : List (ℕ × ℕ)) (outlet : Change OutletTold) (relay : List BasisState) (words : Stream) : Type 0 where
  pub count : ℕ
  pub some : 0 < count
  pub within : count ≤ length frames
  pub holds : relay ≡ relay_after t (take count frames)
  pub number : ℕ
  pub cut : AreCut t start 0 number (relayed rate (word_at start) frames) outlet words
  pub after : length (relayed rate (word_at start) (take (count - 1) frames)) ≤ number
  pub before : number < length (relayed rate (word_at start) (take count frames))

-- These data frames were taken, and all that is sent for them went out; then the send of END failed.
pub record LacksEnd (t : TicketFields) (rate : ℕ) (start : Stream) (frames : List (ℕ × ℕ)) (outlet : Change OutletTold) (relay : List BasisState) (words : Stream) : Type 0 where
  pub holds : relay ≡ relay_after t frames
  pub sent : outlet.new.sends ≡ append_failing outlet.old.sends (datagrams_of t (relayed rate (word_at start) frames))
  pub drawn : words ≡ after_words (length (relayed rate (word_at start) frames)) start

-- The outlet failed: a send of what is sent for these data frames, or that of END after all of it.
abbrev pub EndsShort : TicketFields → ℕ → Stream → List (ℕ × ℕ) → Change OutletTold → List BasisState → Stream → Type 0
EndsShort t rate start frames outlet relay words =
    BreaksOff t rate start frames outlet relay words ⊎ LacksEnd t rate start frames outlet relay words
