-- The row spaces of a receiver, one for each generation.
use Rattle.std.specs.Prelude.{◌≡◌, ℕ, ◌<◌, Option, List, [], length, IfSome}
use Rattle.std.specs.List.{slice_index_or}
use Rattle.kk_rows.specs.Span.{in_span}
use Rattle.kk_rows.specs.Space.{Space}
use Rattle.kk_outside.specs.Change.{Change}
use Rattle.kk_outside.specs.Source.{SourceTold, bytes_read}
use Rattle.kk_outside.specs.declared.event.Event.{Event}
use Rattle.kk_code.specs.Codeword.{width}
use Rattle.kk_code.specs.Ticket.{TicketFields, generations}
use Rattle.kk_frame.specs.declared.frame.TheConstants.{FRAME_BYTES}
use Rattle.kk_frame.specs.declared.gate_count.GateCount.{GateCount}
use Rattle.kk_frame.specs.Events.{taken}
use Rattle.kk_frame.specs.Intake.{IntakeState, IsAfter}
use Rattle.kk_frame.specs.Generation.{rows_of}
use Rattle.kk_run_unpack.specs.Unpack.{vectors_of, counts_of, ReadsUpToStop, LeavesRemainder}

-- what clauses see of the generations of an unpacking: of each its row space, and its answer, once it is decoded
pub record GenerationsView : Type 0 where
  pub spaces : List Space
  pub answers : List (Option (List ℕ))

-- a space of rows of this width, which these rows span
pub record Spans (w : ℕ) (space : Space) (rows : List ℕ) : Type 0 where
  pub wide : space.width ≡ w
  pub same : (x : ℕ) → in_span space.rows x ≡ in_span rows x

abbrev pub no_space : Space
no_space = record { width = 0; rows = [] }

-- each generation's space is what its rows span
pub record AreSpanned (t : TicketFields) (spaces : List Space) (vectors : List (ℕ × ℕ)) : Type 0 where
  pub count : length spaces ≡ generations t
  pub each : (g : ℕ) → g < generations t → Spans (width t.code) (slice_index_or spaces g no_space) (rows_of g vectors)

-- The intake was given these events, and each generation's space is what the rows that were taken of them span.
pub record HasTaken (t : TicketFields) (events : List Event) (intake : IntakeState) (spaces : List Space) : Type 0 where
  pub after : IsAfter t events intake
  pub spanned : AreSpanned t spaces (taken FRAME_BYTES t intake.limits events)

-- The capture was read up to the stop, the spaces are those of its data frames, and these are its counts.
pub record AreReceived (t : TicketFields) (most : ℕ) (source : Change SourceTold) (counted : GateCount) (spaces : List Space) : Type 0 where
  pub read : ReadsUpToStop t most source
  pub left : IfSome source.old.left (λ bytes. LeavesRemainder t most bytes source)
  pub counts : counted ≡ counts_of t most (bytes_read source)
  pub spanned : AreSpanned t spaces (vectors_of t most (bytes_read source))
