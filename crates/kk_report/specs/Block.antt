-- A text that goes to a sink by way of a block.
use Rattle.std.specs.Prelude.{◌≡◌, ℕ, List, ◌++◌, Result, OnOk, OnErr}
use Rattle.kk_outside.specs.Change.{Change, change}
use Rattle.kk_outside.specs.Sink.{SinkTold, append_bytes, FailsWithin}

-- All of the text is out at the sink, except for its end, which the block holds.
pub record IsPending (sink : Change SinkTold) (block text : List ℕ) : Type 0 where
  pub out : List ℕ
  pub parts : text ≡ out ++ block
  pub written : sink.new.written ≡ append_bytes sink.old.written out

-- A text went to the sink by way of the block. At `Ok` all of it is out except for what the block holds, else the sink failed
-- within it.
pub record Goes {T E : Type 0} (sink : Change SinkTold) (result : Result T E) (block text : List ℕ) : Type 0 where
  pub all : OnOk result (IsPending sink block text)
  pub part : OnErr result (FailsWithin sink text)

-- A call added a piece to any text that was pending: it took the sink from `old` to `new`, and the block from `held` to `holds`.
abbrev pub Adds : {T E : Type 0} → SinkTold → SinkTold → List ℕ → List ℕ → Result T E → List ℕ → Type 0
Adds old new held holds result piece =
    (start : SinkTold) (text : List ℕ) → IsPending (change start old) held text → Goes (change start new) result holds (text ++ piece)
