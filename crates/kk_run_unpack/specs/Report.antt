-- The report of a receiver with one gate, by the spaces and answers that it holds.
use Rattle.std.specs.Prelude.{ℕ, ◌==◌, Bool, if◌then◌else◌, List, [], ◌++◌, length, map, sum_by, Option, is_some}
use Rattle.std.specs.List.{zip}
use Rattle.kk_rows.specs.Space.{Space}
use Rattle.kk_rows.specs.Span.{dimension}
use Rattle.kk_frame.specs.declared.gate_count.GateCount.{GateCount}
use Rattle.kk_report.specs.Report.{status_line, gate_line}
use Rattle.kk_outcome.specs.Outcome.{count_line, generation_lines, inserts_line, unfrozen_totals}

-- the rank of a generation's space, and whether it has an answer
abbrev pub outcome : Space × Option (List ℕ) → ℕ × Bool
outcome generation = (dimension generation.0.rows, is_some generation.1)

-- the outcomes of all generations, of which each has its space and its answer
abbrev pub outcomes : List Space → List (Option (List ℕ)) → List (ℕ × Bool)
outcomes spaces answers = map outcome (zip spaces answers)

abbrev pub outcome_lines : GateCount → List Space → List (Option (List ℕ)) → List ℕ
outcome_lines counts spaces answers =
    count_line (length spaces) ++ gate_line 0 counts ++ generation_lines (outcomes spaces answers)
    ++ inserts_line (unfrozen_totals counts.frames (sum_by (λ space. dimension space.rows) spaces))

-- the report by them: the status alone where it is 5
abbrev pub outcome_report : ℕ → GateCount → List Space → List (Option (List ℕ)) → List ℕ
outcome_report status counts spaces answers = (if status == 5 then [] else outcome_lines counts spaces answers) ++ status_line status
