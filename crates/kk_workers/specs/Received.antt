-- What was received: the logs of one history of calls, and what they decode to.
use Rattle.std.specs.Prelude.{◌≡◌, ◌↔◌, ℕ, ◌+◌, ◌<◌, ◌==◌, Bool, true, List, [], ◌∷◌, ◌++◌, map, filter, flat_map, length, sum_by, slice_index_or, All, Option, Some, None, IfSome}
use Rattle.std.specs.List.{range_with_len}
use Rattle.kk_outside.specs.Causes.{CanCount}
use Rattle.kk_outside.specs.Change.{Change, change}
use Rattle.kk_outside.specs.Gate.{GateTold, GateFailed, events_told}
use Rattle.kk_code.specs.Codeword.{IsMessage}
use Rattle.kk_code.specs.Decoding.{answer}
use Rattle.kk_code.specs.Ticket.{TicketFields, generations}
use Rattle.kk_frame.specs.declared.frame.TheConstants.{FRAME_BYTES}
use Rattle.kk_frame.specs.declared.limits.Limits.{Limits}
use Rattle.kk_frame.specs.declared.gate_count.Ended.TheVariants.{Fault}
use Rattle.kk_frame.specs.declared.gate_count.GateCount.{GateCount}
use Rattle.kk_frame.specs.Asking.{FaultCause}
use Rattle.kk_frame.specs.Events.{taken}
use Rattle.kk_frame.specs.Generation.{rows_of}
use Rattle.kk_machine.specs.declared.call.Entry.{Entry}
use Rattle.kk_machine.specs.Inserts.{EachCall, is_freeze, FrozenBy, tally, freezes}
use Rattle.kk_table.specs.declared.view.Known.{Known}
use Rattle.kk_table.specs.Rule.{numbers_of}
use Rattle.kk_table.specs.Logs.{LogsView, IsHistoryOf, log_at}
use Rattle.kk_table.specs.Table.{shape_of}
use Rattle.kk_workers.specs.declared.plan.Plan.{Plan}
use Rattle.kk_workers.specs.declared.totals.Totals.{Totals}
use Rattle.kk_workers.specs.Totals.{totals_in}
use Rattle.kk_workers.specs.WorkerCalls.{WasWorkedOff}
use Rattle.kk_workers.specs.Runs.{all_closed_by}

-- ---- the gates

-- each gate before and after
abbrev pub changes : {G : Type 0} → (G → GateTold) → List G → List G → List (Change GateTold)
changes told [] after = []
changes told (gate ∷ gates) [] = []
changes told (gate ∷ gates) (gate' ∷ after) = change (told gate) (told gate') ∷ changes told gates after

-- generation and row of each data frame that was taken of the gates, gate after gate
abbrev pub all_taken : TicketFields → Limits → List (Change GateTold) → List (ℕ × ℕ)
all_taken t limits gates = flat_map (λ gate. taken FRAME_BYTES t limits (events_told gate)) gates

-- ---- the passes

-- no call of these passes froze the generation
abbrev pub is_open : List Known → ℕ → Bool
is_open records g = sum_by (λ r. tally (freezes g) r.calls) records == 0

-- the generations that these passes left open, in rising order
abbrev pub open_after : ℕ → List Known → List ℕ
open_after n records = filter (is_open records) (range_with_len 0 n)

-- The pass number i + 1 was that of this gate's worker, and was given before any was taken back.
pub record IsPassOf (t : TicketFields) (plan : Plan) (i : ℕ) (gate : Change GateTold) (counted : GateCount) (k : Known) : Type 0 where
  pub number : k.number ≡ i + 1
  pub note : k.note ≡ []
  pub worked : WasWorkedOff t plan gate counted k.calls
  pub cause : FaultCause gate counted
  pub fault : CanCount gate.old.faults → (counted.ended ≡ Some Fault) ↔ GateFailed gate

-- The closing pass was given when all others were taken back. It froze each generation that they had left open, in rising
-- order, and made no other call.
pub record IsClosing (n : ℕ) (records : List Known) (k : Known) : Type 0 where
  pub number : k.number ≡ length records + 1
  pub note : k.note ≡ numbers_of records
  pub freezes : EachCall is_freeze k.calls
  pub in_order : all_closed_by k.calls ≡ open_after n records

-- ---- what is received

-- the logs and the records of the table, the answer of each generation, the counts of each gate, and the totals
pub record ReceivedView : Type 0 where
  pub logs : LogsView
  pub answers : List (Option (List ℕ))
  pub gates : List GateCount
  pub totals : Totals

-- One legal history has the inserts of every data frame that was taken, each in its gate's order through a pass of that gate,
-- and then what the closing pass froze. Each generation is closed in it, and its log is frozen by the rows that came: the
-- records, the logs and the totals are those that the table kept. What is decoded is these logs.
pub record HasOneHistory (t : TicketFields) (plan : Plan) (gates : List (Change GateTold)) (r : ReceivedView) : Type 0 where
  pub shape : r.logs.shape ≡ shape_of t
  pub all_logs : length r.logs.logs ≡ generations t
  -- the passes
  pub records : List Known
  pub closing : Known
  pub all : r.logs.records ≡ records ++ closing ∷ []
  pub one_each : length records ≡ length gates
  pub counted : length r.gates ≡ length gates
  pub passes : (i : ℕ) (gate : Change GateTold) (c : GateCount) (k : Known) → i < length gates
      → IsPassOf t plan i (slice_index_or gates i gate) (slice_index_or r.gates i c) (slice_index_or records i k)
  pub closes : IsClosing (generations t) records closing
  -- the history
  pub history : List Entry
  pub is_history : IsHistoryOf r.logs.shape r.logs.records (log_at r.logs.logs) history
  pub totals : r.totals ≡ totals_in history
  pub closed : (g : ℕ) → g < generations t → (log_at r.logs.logs g).closed ≡ true
  pub frozen : (g : ℕ) → g < generations t → FrozenBy (log_at r.logs.logs g).rows (rows_of g (all_taken t plan.limits gates)) plan.goal
  pub nobody_late : plan.goal ≡ None → r.totals.late ≡ 0
  -- what the logs decode to
  pub answers : r.answers ≡ map (λ l. answer t.code l.rows) r.logs.logs
  pub messages : All (λ a. IfSome a (IsMessage t.code)) r.answers

-- The totals add up: there is an insert for each frame, the innovative ones number the ranks, and each is one of three kinds.
pub record AddUp (t : TicketFields) (plan : Plan) (gates : List (Change GateTold)) (r : ReceivedView) : Type 0 where
  pub inserts : r.totals.inserts ≡ length (all_taken t plan.limits gates)
  pub innovative : r.totals.innovative ≡ sum_by (λ l. length l.rows) r.logs.logs
  pub kinds : r.totals.inserts ≡ r.totals.innovative + r.totals.redundant + r.totals.late
