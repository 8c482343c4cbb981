-- What is true of all relays, which the functions of `laws` prove.
use Rattle.std.specs.Prelude.{◌≡◌, ℕ, IsTrue, List, [], ◌∷◌, ◌++◌, All, length}
use Rattle.kk_rows.specs.Span.{in_span}
use Rattle.kk_frame.specs.Generation.{rows_of}
use Rattle.kk_relay.specs.Relaying.{sent_for, relayed}

-- What is sent for a data frame comes after all that is sent for those before it, is of its generation, and lies in the span of
-- the rows of that generation that were taken up to it.
pub record IsSentFor (rate : ℕ) (word : ℕ → ℕ) (before : List (ℕ × ℕ)) (frame : ℕ × ℕ) : Type 0 where
  pub next : relayed rate word (before ++ frame ∷ []) ≡ relayed rate word before ++ sent_for rate word (length (relayed rate word before)) before frame
  pub spanned : (first : ℕ) → All (λ sent. (sent.0 ≡ frame.0) × IsTrue (in_span (rows_of frame.0 (before ++ frame ∷ [])) sent.1)) (sent_for rate word first before frame)

-- Each row that a relay sends lies in the span of the rows of its generation that were taken before it, and is the next of its list.
abbrev pub RelayedRowsAreSpanned : Type 0
RelayedRowsAreSpanned = (rate : ℕ) (word : ℕ → ℕ) (before : List (ℕ × ℕ)) (frame : ℕ × ℕ) → IsSentFor rate word before frame
