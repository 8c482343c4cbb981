-- What each command calls of what a run is handed.
use Rattle.std.specs.Prelude.{Bool, true, false, List, ℕ, Option, Some, None}
use Rattle.kk_words.specs.declared.command.Command.{Command}
use Rattle.kk_words.specs.declared.command.Command.TheVariants.{Plan, Pack, Unpack, Send, Relay, Recv, Sim}
use Rattle.kk_words.specs.Commands.{named_in}

-- what may be called or added to, beside the report, which every run writes: the source, the sink of the file, the gates, the
-- outlet, and the logs
pub record Ends : Type 0 where
  pub source : Bool
  pub file : Bool
  pub gates : Bool
  pub outlet : Bool
  pub logs : Bool

-- nothing but the report
abbrev pub report_alone : Ends
report_alone = record { source = false; file = false; gates = false; outlet = false; logs = false }

-- what a command uses
abbrev pub used_by : Command → Ends
used_by Plan = record report_alone { source = true; file = true }
used_by Pack = record report_alone { source = true; file = true }
used_by Unpack = record report_alone { source = true; file = true }
used_by Send = record report_alone { source = true; outlet = true }
used_by Relay = record report_alone { gates = true; outlet = true }
used_by Recv = record report_alone { file = true; gates = true; logs = true }
used_by Sim = record report_alone { logs = true }

-- what words use: what the command uses that the first one names, and else nothing
abbrev pub ends_used : Option Command → Ends
ends_used None = report_alone
ends_used (Some command) = used_by command

-- what a run by these words may use
abbrev pub uses : List (List ℕ) → Ends
uses words = ends_used (named_in words)
