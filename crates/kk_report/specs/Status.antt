-- The number of each status of a run that was not refused.
use Rattle.std.specs.Prelude.{ℕ}
use Rattle.kk_report.specs.declared.status.Status.{Status}
use Rattle.kk_report.specs.declared.status.Status.TheVariants.{Done, NotDecoded, GateFailed, OutputFault}

abbrev pub code_of : Status → ℕ
code_of Done = 0
code_of NotDecoded = 3
code_of GateFailed = 6
code_of OutputFault = 5
