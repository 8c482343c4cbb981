-- The report of a receiver with several gates, by the logs and answers that it leaves.
use Rattle.std.specs.Prelude.{ℕ, ◌==◌, Bool, if◌then◌else◌, List, [], ◌++◌, length, map, Option, None, is_some}
use Rattle.std.specs.List.{range_with_len, slice_index_or}
use Rattle.kk_frame.specs.declared.gate_count.GateCount.{GateCount}
use Rattle.kk_machine.specs.declared.log.Log.{Log}
use Rattle.kk_table.specs.Logs.{log_at}
use Rattle.kk_workers.specs.declared.totals.Totals.{Totals}
use Rattle.kk_report.specs.Report.{status_line}
use Rattle.kk_outcome.specs.Outcome.{received_lines}

-- the rank of a generation's log, and whether it has an answer
abbrev pub logged : List Log → List (Option (List ℕ)) → ℕ → ℕ × Bool
logged logs answers g = (length (log_at logs g).rows, is_some (slice_index_or answers g None))

-- the outcomes of the first n generations
abbrev pub logged_outcomes : ℕ → List Log → List (Option (List ℕ)) → List (ℕ × Bool)
logged_outcomes n logs answers = map (logged logs answers) (range_with_len 0 n)

-- the report of a receiver: the status alone where it is 5
abbrev pub receiver_report : ℕ → List GateCount → List (ℕ × Bool) → Totals → List ℕ
receiver_report status gates generations totals = (if status == 5 then [] else received_lines gates generations totals) ++ status_line status
