-- The workers of a receiver, before and after they work, and what is closed after them.
use Rattle.std.specs.Prelude.{◌≡◌, ℕ, ◌+◌, ◌^◌, ◌<◌, ◌≤◌, true, List, [], ◌∷◌, ◌++◌, length, map, filter, replicate, slice_index_or, All, Option, None, is_none, unwrap_or, vec_capacity}
use Rattle.std.specs.List.{range_with_len}
use Rattle.std.specs.Option.{option_or}
use Rattle.std.specs.declared.alloc.Global.{Global}
use Rattle.std.specs.declared.vec.Vec.{Vec}
use Rattle.kk_outside.specs.Change.{change}
use Rattle.kk_outside.specs.Gate.{GateTold}
use Rattle.kk_code.specs.Codeword.{Parameters}
use Rattle.kk_code.specs.Decoding.{answer}
use Rattle.kk_code.specs.Ticket.{TicketFields, generations}
use Rattle.kk_frame.specs.declared.gate_count.GateCount.{GateCount}
use Rattle.kk_frame.specs.Asking.{FaultCause}
use Rattle.kk_machine.specs.declared.call.Call.{Call}
use Rattle.kk_machine.specs.declared.call.Call.TheVariants.{Insert, Freeze, Peek}
use Rattle.kk_machine.specs.declared.call.Entry.{Entry}
use Rattle.kk_machine.specs.Inserts.{EachCall, is_freeze, AreBelow}
use Rattle.kk_table.specs.declared.view.Known.{Known}
use Rattle.kk_table.specs.Rule.{sight, newcomer}
use Rattle.kk_table.specs.Founder.{FounderView}
use Rattle.kk_table.specs.Pass.{PassView}
use Rattle.kk_table.specs.Table.{TableView, shape_of}
use Rattle.kk_workers.specs.declared.plan.Plan.{Plan}
use Rattle.kk_workers.specs.declared.running.TheConstants.{MAX_GATES}
use Rattle.kk_workers.specs.Totals.{totals_in, no_totals}
use Rattle.kk_workers.specs.WorkerCalls.{SamePass, AreAnswers, WasWorkedOff}
use Rattle.kk_workers.specs.WorkerLoop.{AreTotals}
use Rattle.kk_workers.specs.Worker.{WorkerView, new_worker}

-- ---- before the first call on a gate

-- a founder with its table, how many passes it may give and has given, the records that it has, and its reserved storage
abbrev pub founder_of : TableView → ℕ → ℕ → List Known → ℕ → FounderView
founder_of table passes given records spare = record { table = table; passes = passes; given = given; records = records; spare = spare }

-- a receiver that has asked no gate yet: its ticket, and for how many gates it is
pub record ReceiverView : Type 0 where
  pub ticket : TicketFields
  pub gates : ℕ

-- A new table of the ticket for so many gates and a closing pass, with the storage of all passes, and room for all that
-- becomes known.
pub record HasAllRoom {G : Type 0} (t : TicketFields) (gates : ℕ) (table : TableView) (founder : FounderView) (rooms : List (Vec (Option (Option (List ℕ))) Global))
    (workers : Vec (WorkerView G) Global) (counts : Vec GateCount Global) (answers : Vec (Option (List ℕ)) Global) : Type 0 where
  pub few : gates ≤ MAX_GATES
  pub shape : table.shape ≡ shape_of t
  pub founder_is : founder ≡ founder_of table (gates + 1) 0 [] (gates + 1)
  pub empty : All (λ room. room.items ≡ replicate (generations t) None) rooms
  pub no_workers : (workers.items ≡ []) × (gates ≤ vec_capacity workers)
  pub no_counts : (counts.items ≡ []) × (gates ≤ vec_capacity counts)
  pub no_answers : (answers.items ≡ []) × (generations t ≤ vec_capacity answers)

-- the pass that is given after k others, none of which was taken back
abbrev pub pass_of : TableView → ℕ → PassView
pass_of table k = record { table = table; known = newcomer table.shape.generations k [] }

-- the workers of these gates, from place k on
unfoldable pub hired : {G : Type 0} → TableView → ℕ → ℕ → List G → List (WorkerView G)
hired table n k [] = []
hired table n k (gate ∷ gates) = new_worker n (pass_of table k) gate ∷ hired table n (k + 1) gates

-- ---- at work

-- a worker that may work at the table
pub record IsReady {G : Type 0} (here : TableView) (t : TicketFields) (w : WorkerView G) : Type 0 where
  pub table : w.pass.table ≡ here
  pub no_calls : w.pass.known.calls ≡ []
  pub no_inserts : w.totals ≡ no_totals
  pub no_answers : w.answers ≡ replicate (generations t) None

-- what a worker did
pub record Did {G : Type 0} (told : G → GateTold) (t : TicketFields) (plan : Plan) (w w' : WorkerView G) : Type 0 where
  pub same : SamePass w.pass w'.pass
  pub worked : WasWorkedOff t plan (change (told w.gate) (told w'.gate)) w'.counts w'.pass.known.calls
  pub totals : AreTotals w'.totals w'.pass.known.calls
  pub few : w'.totals.inserts ≤ 2 ^ 39
  pub answers : AreAnswers t.code w'.pass.known w'.answers
  pub all_answers : length w'.answers ≡ generations t
  pub cause : FaultCause (change (told w.gate) (told w'.gate)) w'.counts

-- ---- closing

-- the generation that a call freezes
abbrev pub closed_by : Call → List ℕ
closed_by (Insert g row) = []
closed_by (Freeze g) = g ∷ []
closed_by (Peek g) = []

-- the generations that these calls freeze, in order
unfoldable pub all_closed_by : List Entry → List ℕ
all_closed_by [] = []
all_closed_by (e ∷ es) = closed_by e.call ++ all_closed_by es

-- the answers in these vectors
abbrev pub lists_in : List (Vec (Option (Option (List ℕ))) Global) → List (List (Option (Option (List ℕ))))
lists_in rooms = map (λ room. room.items) rooms

-- the answer of the generation that one of these workers kept, if one did
unfoldable pub kept_answer : List (List (Option (Option (List ℕ)))) → ℕ → Option (Option (List ℕ))
kept_answer [] g = None
kept_answer (room ∷ rooms) g = option_or (slice_index_or room g None) (kept_answer rooms g)

-- the answer of the generation: that which a worker kept, or else that of what the closing pass has seen
abbrev pub closing_answer : Parameters → List (List (Option (Option (List ℕ)))) → Known → ℕ → Option (List ℕ)
closing_answer p kept k g = unwrap_or (kept_answer kept g) (answer p (sight k g).rows)

-- A pass has frozen those of the first n generations of which no worker kept an answer, in order, and made no other call, and
-- knows these closed.
pub record Closes (kept : List (List (Option (Option (List ℕ))))) (n : ℕ) (k : Known) : Type 0 where
  pub closed : (g : ℕ) → g < n → kept_answer kept g ≡ None → (sight k g).closed ≡ true
  pub freezes : EachCall is_freeze k.calls
  pub in_order : all_closed_by k.calls ≡ filter (λ g. is_none (kept_answer kept g)) (range_with_len 0 n)
  pub totals : totals_in k.calls ≡ no_totals
  pub below : AreBelow n k.calls
