-- What was received, while its history is not yet known.
use Rattle.std.specs.Prelude.{◌≡◌, ℕ, ◌+◌, ◌<◌, List, [], ◌∷◌, ◌++◌, map, length, slice_index_or}
use Rattle.std.specs.List.{range_with_len}
use Rattle.kk_outside.specs.Change.{change}
use Rattle.kk_outside.specs.Gate.{GateTold}
use Rattle.kk_code.specs.Codeword.{IsCode}
use Rattle.kk_code.specs.Ticket.{TicketFields, generations}
use Rattle.kk_frame.specs.Asking.{FaultCause}
use Rattle.kk_table.specs.declared.view.Known.{Known}
use Rattle.kk_table.specs.Rule.{numbers_of}
use Rattle.kk_table.specs.Table.{shape_of}
use Rattle.kk_workers.specs.declared.plan.Plan.{Plan}
use Rattle.kk_workers.specs.Totals.{sum_of_totals}
use Rattle.kk_workers.specs.WorkerCalls.{AreAnswers, WasWorkedOff}
use Rattle.kk_workers.specs.WorkerLoop.{AreTotals}
use Rattle.kk_workers.specs.Worker.{WorkerView}
use Rattle.kk_workers.specs.Runs.{Closes, closing_answer}
use Rattle.kk_workers.specs.Received.{ReceivedView}

-- the worker of the gate at place i has worked
pub record IsDone {G : Type 0} (told : G → GateTold) (t : TicketFields) (plan : Plan) (i : ℕ) (gate : G) (w : WorkerView G) : Type 0 where
  pub number : w.pass.known.number ≡ i + 1
  pub note : w.pass.known.note ≡ []
  pub worked : WasWorkedOff t plan (change (told gate) (told w.gate)) w.counts w.pass.known.calls
  pub totals : AreTotals w.totals w.pass.known.calls
  pub answers : AreAnswers t.code w.pass.known w.answers
  pub all_answers : length w.answers ≡ generations t
  pub cause : FaultCause (change (told gate) (told w.gate)) w.counts

-- All workers have worked, and gates, counts, totals and records are theirs; after them a pass has closed every generation that
-- none of them froze. The answers are those that the workers kept, and those of what this pass has seen.
pub record IsReceived {G : Type 0} (told : G → GateTold) (t : TicketFields) (plan : Plan) (gates gates' : List G) (r : ReceivedView) : Type 0 where
  pub shape : r.logs.shape ≡ shape_of t
  pub workers : List (WorkerView G)
  pub count : length workers ≡ length gates
  pub done : (i : ℕ) (gate : G) (w : WorkerView G) → i < length gates → IsDone told t plan i (slice_index_or gates i gate) (slice_index_or workers i w)
  pub gates_are : gates' ≡ map (λ w. w.gate) workers
  pub counts_are : r.gates ≡ map (λ w. w.counts) workers
  pub totals_are : r.totals ≡ sum_of_totals (map (λ w. w.totals) workers)
  pub closing : Known
  pub records_are : r.logs.records ≡ map (λ w. w.pass.known) workers ++ closing ∷ []
  pub number : closing.number ≡ length gates + 1
  pub note : closing.note ≡ numbers_of (map (λ w. w.pass.known) workers)
  pub closes : Closes (map (λ w. w.answers) workers) (generations t) closing
  pub answers : r.answers ≡ map (closing_answer t.code (map (λ w. w.answers) workers) closing) (range_with_len 0 (generations t))
  pub code : IsCode t.code
