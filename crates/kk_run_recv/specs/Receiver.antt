-- A receiver with several gates: what a run under a ticket makes of the events that its gates told.
use Rattle.std.specs.Prelude.{◌≡◌, ◌↔◌, ◌⊎◌, ℕ, ◌+◌, ◌-◌, ◌*◌, ◌<◌, ◌≤◌, ◌==◌, Bool, true, false, if◌then◌else◌, List, [], ◌∷◌, length, map, All, Option, Some, None, IsSomeAnd}
use Rattle.kk_rows.specs.Distance.{distance}
use Rattle.kk_outside.specs.Causes.{CanCount}
use Rattle.kk_outside.specs.Change.{Change}
use Rattle.kk_outside.specs.Gate.{GateTold, events_told}
use Rattle.kk_outside.specs.Sink.{SinkTold, SinkFailed, WasGiven}
use Rattle.kk_code.specs.Codeword.{codeword}
use Rattle.kk_code.specs.Ticket.{TicketFields, generations}
use Rattle.kk_assemble.specs.FileBits.{cut}
use Rattle.kk_frame.specs.declared.frame.TheConstants.{FRAME_BYTES}
use Rattle.kk_frame.specs.declared.limits.Limits.{Limits}
use Rattle.kk_frame.specs.declared.gate_count.GateCount.{GateCount}
use Rattle.kk_frame.specs.Events.{counts, ended_by_fault}
use Rattle.kk_frame.specs.Generation.{rows_of}
use Rattle.kk_table.specs.Logs.{LogsView, log_at}
use Rattle.kk_workers.specs.declared.plan.Plan.{Plan}
use Rattle.kk_outside.specs.Gate.{GateFailed}
use Rattle.kk_workers.specs.Received.{all_taken, ReceivedView, HasOneHistory, AddUp}
use Rattle.kk_workers.specs.Laws.{IsTolerable}
use Rattle.kk_outcome.specs.Answers.{file_of, file_text, outcomes_of, totals_of}
use Rattle.kk_outcome.specs.Laws.{AreOneBeyondAtMost}
use Rattle.kk_report.specs.Command.{RanThrough}
use Rattle.kk_run_recv.specs.Report.{logged_outcomes, receiver_report}

-- the file that the data frames of all gates make, where every generation decodes
unfoldable pub received : TicketFields → Limits → List (Change GateTold) → Option (List ℕ)
received t limits gates = file_text t (all_taken t limits gates)

-- what is counted of each gate, and why it ended
abbrev pub gate_counts : TicketFields → Limits → List (Change GateTold) → List GateCount
gate_counts t limits gates = map (λ gate. counts FRAME_BYTES t limits (events_told gate)) gates

-- some gate ended by a fault
abbrev pub some_fault : List GateCount → Bool
some_fault [] = false
some_fault (c ∷ cs) = if ended_by_fault c.ended then true else some_fault cs

-- some gate's count of faults rose
abbrev pub SomeFailed : List (Change GateTold) → Type 0
SomeFailed [] = ⊥
SomeFailed (gate ∷ gates) = GateFailed gate ⊎ SomeFailed gates

-- the status where so the file was delivered, and some gate ended by a fault or none did
abbrev pub after_gates : ℕ → Bool → ℕ
after_gates delivered fault = if delivered == 3 then (if fault then 6 else 3) else delivered

-- The report: what became of each gate and of each generation, or the status alone where the file's sink failed.
abbrev pub report_of : TicketFields → Limits → List (Change GateTold) → ℕ → List ℕ
report_of t limits gates status =
    receiver_report status (gate_counts t limits gates) (outcomes_of t (all_taken t limits gates)) (totals_of t (all_taken t limits gates))

-- the same by what is left of the table and what it decodes to
abbrev pub view_report : TicketFields → Limits → List (Change GateTold) → ReceivedView → ℕ → List ℕ
view_report t limits gates r status =
    receiver_report status (gate_counts t limits gates) (logged_outcomes (generations t) r.logs.logs r.answers) r.totals

-- The report's sink was given the report, which tells the status of the run, or 0 where that is 5 since the report
-- failed. It tells 5 exactly where the file's sink failed.
pub record IsReported (text_of : ℕ → List ℕ) (status : ℕ) (file report : Change SinkTold) : Type 0 where
  pub told : ℕ
  pub same_or_five : (status ≡ told) ⊎ ((told ≡ 0) × (status ≡ 5))
  pub five : CanCount file.old.faults → RanThrough status → ((told ≡ 5) ↔ SinkFailed file)
  pub given : WasGiven (text_of told) report

-- The status of a run, and what its sinks hold, by the file, which is there where every generation decodes, by the text of
-- the report, and by whether some gate ended by a fault.
pub record IsRunOf (made : Option (List ℕ)) (text_of : ℕ → List ℕ) (fault : Bool) (file report : Change SinkTold) (status : ℕ) : Type 0 where
  -- Which status comes; 0 comes where no other does.
  pub not_decoded : (status ≡ 3) ↔ ((made ≡ None) × (fault ≡ false))
  pub gate_failed : (status ≡ 6) ↔ ((made ≡ None) × (fault ≡ true))
  pub output_fault : CanCount file.old.faults → CanCount report.old.faults → RanThrough status → ((status ≡ 5) ↔ (SinkFailed file ⊎ SinkFailed report))
  pub no_other_status : (status ≡ 3) ⊎ ((status ≡ 6) ⊎ RanThrough status)
  -- What the sinks hold.
  pub written : RanThrough status → IsSomeAnd made (λ text. WasGiven text file)
  pub reported : IsReported text_of status file report

-- This file, which has as many bytes as the ticket says, was sent.
pub record IsFileOf (t : TicketFields) (sent : List ℕ) : Type 0 where
  pub len : length sent ≡ t.length
  pub bytes : All (λ b. b < 256) sent

-- A run under this ticket. One history has every data frame that was taken as an insert, and the run leaves its logs. File,
-- report and status are those of what the logs decode to.
pub record IsReceiver (t : TicketFields) (plan : Plan) (gates : List (Change GateTold)) (file report : Change SinkTold) (logs : List LogsView) (status : ℕ) : Type 0 where
  pub view : ReceivedView
  pub kept : logs ≡ view.logs ∷ []
  pub one_history : HasOneHistory t plan gates view
  pub add_up : AddUp t plan gates view
  pub gate_faults : All (λ gate. CanCount gate.old.faults) gates → ((some_fault (gate_counts t plan.limits gates) ≡ true) ↔ SomeFailed gates)
  pub run : IsRunOf (file_of t view.answers) (view_report t plan.limits gates view) (some_fault (gate_counts t plan.limits gates)) file report status
  -- With no goal they are one function of the events that the gates told, so those of a receiver on one thread.
  pub one_function : plan.goal ≡ None
      → IsRunOf (received t plan.limits gates) (report_of t plan.limits gates) (some_fault (gate_counts t plan.limits gates)) file report status
  -- The file is the one that was sent, where each log lies within distance l - k of the codeword of its message.
  pub within_radius : (sent : List ℕ) → IsFileOf t sent
      → ((g : ℕ) → g < generations t → distance (codeword t.code (cut t.code sent g)) (log_at view.logs.logs g).rows ≤ t.code.l - t.code.k)
      → file_of t view.answers ≡ Some sent
  -- One dimension beyond, it is never another: it is the one that was sent, or there is none.
  pub one_beyond : (sent made : List ℕ) → IsFileOf t sent → AreOneBeyondAtMost t sent (λ g. (log_at view.logs.logs g).rows)
      → file_of t view.answers ≡ Some made → made ≡ sent
  -- With a goal it is that, and what a receiver on one thread writes, where the rows that came are within what is tolerated.
  pub tolerates : (n : ℕ) (sent : List ℕ) → plan.goal ≡ Some (t.code.k + 2 * n) → IsFileOf t sent
      → ((g : ℕ) → g < generations t → IsTolerable t.code n (rows_of g (all_taken t plan.limits gates)) (cut t.code sent g))
      → (file_of t view.answers ≡ Some sent) × (received t plan.limits gates ≡ Some sent)
