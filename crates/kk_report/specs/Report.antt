-- The text of a report: lines that each end with a line feed, of words and numbers that one space parts.
use Rattle.std.specs.Prelude.{◌≡◌, ◌↔◌, ◌⊎◌, ℕ, ◌==◌, if◌then◌else◌, List, [], ◌++◌, Option, Some, None, codes}
use Rattle.std.specs.Fmt.{decimal}
use Rattle.kk_outside.specs.Causes.{CanCount}
use Rattle.kk_outside.specs.Change.{Change}
use Rattle.kk_outside.specs.Sink.{SinkTold, SinkFailed, WasGiven}
use Rattle.kk_frame.specs.declared.gate_count.Ended.{Ended}
use Rattle.kk_frame.specs.declared.gate_count.Ended.TheVariants.{End, Idle, Most, Fault, Over}
use Rattle.kk_frame.specs.declared.gate_count.GateCount.{GateCount}

-- the last line of every report
abbrev pub status_line : ℕ → List ℕ
status_line status = codes "status " ++ decimal status ++ codes "\n"

-- why a gate has ended; nothing where it hasn't
abbrev pub end_word : Option Ended → List ℕ
end_word (Some End) = codes "end"
end_word (Some Idle) = codes "idle"
end_word (Some Most) = codes "most"
end_word (Some Fault) = codes "fault"
end_word (Some Over) = codes "over"
end_word None = []

-- a gate: its number, why it has ended, and its counts
abbrev pub gate_line : ℕ → GateCount → List ℕ
gate_line number counts =
    codes "gate " ++ decimal number ++ codes " " ++ end_word counts.ended
    ++ codes " datagrams " ++ decimal counts.datagrams ++ codes " frames " ++ decimal counts.frames
    ++ codes " badlength " ++ decimal counts.refused.badlength ++ codes " magic " ++ decimal counts.refused.magic
    ++ codes " version " ++ decimal counts.refused.version ++ codes " kind " ++ decimal counts.refused.kind
    ++ codes " session " ++ decimal counts.refused.session ++ codes " generation " ++ decimal counts.refused.generation
    ++ codes " row " ++ decimal counts.refused.row ++ codes " endrow " ++ decimal counts.refused.endrow ++ codes "\n"

-- ---- a report of a few lines

-- these lines and the status: the status alone where it is 5
abbrev pub concluded_text : ℕ → List ℕ → List ℕ
concluded_text status lines = (if status == 5 then [] else lines) ++ status_line status

-- The report's sink was given these lines and the status of the run, or 0 where that is 5 since the report failed. It
-- tells 5 exactly where the file's sink failed.
pub record IsConcluded (lines : List ℕ) (status : ℕ) (file report : Change SinkTold) : Type 0 where
  pub told : ℕ
  pub same_or_five : (status ≡ told) ⊎ ((told ≡ 0) × (status ≡ 5))
  pub five : CanCount file.old.faults → ((told ≡ 5) ↔ SinkFailed file)
  pub given : WasGiven (concluded_text told lines) report
