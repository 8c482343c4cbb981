-- What callers see of a sink in memory.
use Rattle.std.specs.Prelude.{◌⊎◌, ℕ, ◌-◌, ◌<◌, ◌≤◌, min, List, [], ◌∷◌, ◌++◌, Ok, length, Contains}
use Rattle.kk_outside.specs.Causes.{one_more}
use Rattle.kk_outside.specs.Sink.{SinkTold, Written, Failed, bytes_written, write_of}
use Rattle.kk_outside.specs.declared.failed.Failed.{Failed as Fault}

-- It holds the bytes that its writes took, at most `room`, and takes at most `piece` a call.
-- The calls whose numbers are in `fails` fail.
pub record SinkState : Type 0 where
  pub written : List Written
  pub room : ℕ
  pub piece : ℕ
  pub fails : List ℕ
  pub calls : ℕ
  pub faults : ℕ

-- what it tells
abbrev pub told : SinkState → SinkTold
told s = record { written = s.written; faults = s.faults }

-- before any call
abbrev pub unwritten : ℕ → ℕ → List ℕ → SinkState
unwritten room piece fails = record { written = []; room = room; piece = piece; fails = fails; calls = 0; faults = 0 }

-- a write of these bytes fails: it is one of those that are to fail, or there is no room for a byte
abbrev pub IsRefused : SinkState → List ℕ → Type 0
IsRefused s bytes = Contains s.fails s.calls ⊎ ((0 < length bytes) × (s.room ≤ length (bytes_written s.written)))

-- how many of these bytes a write takes, where it doesn't fail
abbrev pub taken_count : SinkState → List ℕ → ℕ
taken_count s bytes = min s.piece (min (length bytes) (s.room - length (bytes_written s.written)))

-- after a write that took the first n of these bytes
abbrev pub after_write : SinkState → List ℕ → ℕ → SinkState
after_write s bytes n = record s { written = s.written ++ write_of {E = Fault} (Ok n) bytes; calls = one_more s.calls }

-- after a write that failed
abbrev pub after_failed_write : SinkState → SinkState
after_failed_write s = record s { written = s.written ++ Failed ∷ []; calls = one_more s.calls; faults = one_more s.faults }
