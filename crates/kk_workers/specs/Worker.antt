-- A worker as clauses see it.
use Rattle.std.specs.Prelude.{ℕ, List, replicate, Option, None}
use Rattle.kk_frame.specs.declared.gate_count.GateCount.{GateCount}
use Rattle.kk_frame.specs.Counting.{no_counts}
use Rattle.kk_table.specs.Pass.{PassView}
use Rattle.kk_workers.specs.declared.totals.Totals.{Totals}
use Rattle.kk_workers.specs.Totals.{no_totals}

-- a pass, a gate, its counts, how the inserts were answered, and by generation the answer, where this worker froze it
pub record WorkerView (G : Type 0) : Type 0 where
  pub pass : PassView
  pub gate : G
  pub counts : GateCount
  pub totals : Totals
  pub answers : List (Option (Option (List ℕ)))

-- a worker for so many generations that hasn't worked
abbrev pub new_worker : {G : Type 0} → ℕ → PassView → G → WorkerView G
new_worker n pass gate = record { pass = pass; gate = gate; counts = no_counts; totals = no_totals; answers = replicate n None }
