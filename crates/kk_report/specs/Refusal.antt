-- Why a run is refused whose words give an order, and its report: a line with the cause, and the status.
use Rattle.std.specs.Prelude.{◌≡◌, ℕ, Bool, if◌then◌else◌, List, ◌++◌, codes}
use Rattle.std.specs.Fmt.{decimal}
use Rattle.kk_report.specs.declared.refusal.Refusal.{Refusal}
use Rattle.kk_report.specs.declared.refusal.Refusal.TheVariants.{Input, Length, Outlet, Memory}
use Rattle.kk_outside.specs.Change.{Change}
use Rattle.kk_outside.specs.Sink.{SinkTold, WasGiven}
use Rattle.kk_report.specs.Report.{status_line}

-- the number of the status
abbrev pub status_of : Refusal → ℕ
status_of Input = 4
status_of (Length got more) = 9
status_of Outlet = 7
status_of Memory = 8

-- how many bytes a source gave that doesn't have as many as the file
abbrev pub length_cause : ℕ → Bool → List ℕ
length_cause got more = if more then codes "length more" else codes "length " ++ decimal got

-- the cause of a refusal, as its report tells it
abbrev pub cause : Refusal → List ℕ
cause Input = codes "input fault"
cause (Length got more) = length_cause got more
cause Outlet = codes "outlet fault"
cause Memory = codes "memory"

-- the whole report
abbrev pub refusal_text : Refusal → List ℕ
refusal_text refusal = cause refusal ++ codes "\n" ++ status_line (status_of refusal)

-- The run ended with the status of this cause, and its report is the cause's.
pub record IsRefused (why : Refusal) (status : ℕ) (report : Change SinkTold) : Type 0 where
  pub tells : status ≡ status_of why
  pub given : WasGiven (refusal_text why) report
