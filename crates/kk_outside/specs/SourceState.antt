-- What callers see of a source in memory.
use Rattle.std.specs.Prelude.{ℕ, min, List, [], ◌∷◌, ◌++◌, Some, length, drop}
use Rattle.kk_outside.specs.Causes.{one_more}
use Rattle.kk_outside.specs.Source.{Read, Failed, SourceTold}

-- It gives the bytes that are left, at most `piece` a call. The calls whose numbers are in `fails` fail.
pub record SourceState : Type 0 where
  pub left : List ℕ
  pub piece : ℕ
  pub fails : List ℕ
  pub calls : ℕ
  pub faults : ℕ
  pub reads : List Read

-- what it tells
abbrev pub told : SourceState → SourceTold
told s = record { left = Some s.left; reads = s.reads; faults = s.faults }

-- before any call
abbrev pub unread : List ℕ → ℕ → List ℕ → SourceState
unread bytes piece fails = record { left = bytes; piece = piece; fails = fails; calls = 0; faults = 0; reads = [] }

-- how many bytes a read gives into a buffer of this length, where it doesn't fail
abbrev pub given_count : SourceState → ℕ → ℕ
given_count s len = min s.piece (min len (length s.left))

-- after a read that gave n bytes, in these words of the log
abbrev pub after_read : SourceState → ℕ → Read → SourceState
after_read s n read = record s { left = drop n s.left; calls = one_more s.calls; reads = s.reads ++ read ∷ [] }

-- after a read that failed
abbrev pub after_failed_read : SourceState → SourceState
after_failed_read s = record s { calls = one_more s.calls; faults = one_more s.faults; reads = s.reads ++ Failed ∷ [] }
