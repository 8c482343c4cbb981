-- What a sink tells, and what a write, and writes until a text is out, do to that.
use Rattle.std.specs.Prelude.{◌≡◌, ◌⊎◌, ℕ, ◌==◌, if◌then◌else◌, ◌<◌, ◌≤◌, List, [], ◌∷◌, ◌++◌, length, take, map, Result, Ok, Err, IfOk, OnOk, OnErr}
use Rattle.kk_outside.specs.Causes.{CanCount}
use Rattle.kk_outside.specs.Change.{Change}

-- What writes came to, byte for byte: a byte that was taken; a write that took none, which is one of no bytes; or a write
-- that failed. How many bytes one write took is the sink's choice, and isn't told.
pub data Written : Type 0 where
  Byte : (byte : ℕ) → Written
  Nothing : Written
  Failed : Written

-- what all writes so far came to, in order, and how often the sink failed
pub record SinkTold : Type 0 where
  pub written : List Written
  pub faults : ℕ

-- its count of faults rose
abbrev pub SinkFailed : Change SinkTold → Type 0
SinkFailed sink = sink.old.faults < sink.new.faults

-- these writes, and then writes that took these bytes
abbrev pub append_bytes : List Written → List ℕ → List Written
append_bytes written bytes = written ++ map Byte bytes

-- these writes, then writes that took these bytes, and at last one that failed
abbrev pub append_failing : List Written → List ℕ → List Written
append_failing written bytes = append_bytes written bytes ++ Failed ∷ []

-- the bytes that were taken
abbrev pub bytes_written : List Written → List ℕ
bytes_written [] = []
bytes_written (Byte byte ∷ written) = byte ∷ bytes_written written
bytes_written (Nothing ∷ written) = bytes_written written
bytes_written (Failed ∷ written) = bytes_written written

-- what a write of this piece came to
abbrev pub write_of : {E : Type 0} → Result ℕ E → List ℕ → List Written
write_of (Ok n) piece = if n == 0 then Nothing ∷ [] else map Byte (take n piece)
write_of (Err e) piece = Failed ∷ []

-- one write: at `Ok(n)` the first n bytes of the piece were taken, at least one unless the piece is empty
pub record WritesTo {E : Type 0} (sink : Change SinkTold) (result : Result ℕ E) (piece : List ℕ) : Type 0 where
  pub bounded : IfOk result (λ n. n ≤ length piece)
  pub some : IfOk result (λ n. 0 < length piece → 0 < n)
  pub logged : sink.new.written ≡ sink.old.written ++ write_of result piece

-- The sink took less than all of the text, from its front, and then failed; nothing more was asked of it.
abbrev pub FailsWithin : Change SinkTold → List ℕ → Type 0
FailsWithin sink text = (n : ℕ) × (n < length text) × (sink.new.written ≡ append_failing sink.old.written (take n text))

-- Writes until the text is out: at `Ok` all of it was taken, by writes that each took at least one byte; else less than
-- that, from its front, and the last write failed.
pub record WritesAllTo {T E : Type 0} (sink : Change SinkTold) (result : Result T E) (text : List ℕ) : Type 0 where
  pub all : OnOk result (sink.new.written ≡ append_bytes sink.old.written text)
  pub part : OnErr result (FailsWithin sink text)

-- A text was given to the sink: it took all of it, or failed within it. It did the latter where it failed, and else the
-- former.
pub record WasGiven (text : List ℕ) (sink : Change SinkTold) : Type 0 where
  pub either : (sink.new.written ≡ append_bytes sink.old.written text) ⊎ FailsWithin sink text
  pub short : SinkFailed sink → FailsWithin sink text
  pub all : CanCount sink.old.faults → (SinkFailed sink → ⊥) → sink.new.written ≡ append_bytes sink.old.written text
