-- What callers see of a source or a sink over std: the bytes that std's reader has left or its writer holds, where that
-- type says (a file or a socket doesn't), what the reads gave or the writes took, and how often it failed.
use Rattle.std.specs.Prelude.{ℕ, List, Option, None}
use Rattle.kk_outside.specs.Source.{Read, SourceTold}
use Rattle.kk_outside.specs.Sink.{SinkTold, Written}

-- the bytes that std's reader has left, where its type says; what the reads gave; and how often the source failed
pub record StdSourceState : Type 0 where
  pub known : Option (List ℕ)
  pub reads : List Read
  pub faults : ℕ

-- the bytes that std's writer holds, where its type says; what the writes took; and how often the sink failed
pub record StdSinkState : Type 0 where
  pub known : Option (List ℕ)
  pub written : List Written
  pub faults : ℕ

-- what a source over std tells
abbrev pub source_told : StdSourceState → SourceTold
source_told s = record { left = None; reads = s.reads; faults = s.faults }

-- what a sink over std tells
abbrev pub sink_told : StdSinkState → SinkTold
sink_told s = record { written = s.written; faults = s.faults }
