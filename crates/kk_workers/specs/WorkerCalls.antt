-- What a worker does with its gate and its pass.
use Rattle.std.specs.Prelude.{◌≡◌, ℕ, ◌+◌, ◌*◌, ◌<◌, ◌≤◌, ◌==◌, Bool, true, false, List, [], ◌∷◌, ◌++◌, length, slice_index_or, Option, Some, None}
use Rattle.kk_outside.specs.Change.{Change}
use Rattle.kk_outside.specs.Gate.{GateTold, prepend_events, events_told}
use Rattle.kk_outside.specs.declared.event.Event.{Event}
use Rattle.kk_code.specs.Codeword.{Parameters}
use Rattle.kk_code.specs.Decoding.{answer}
use Rattle.kk_code.specs.Ticket.{TicketFields, generations}
use Rattle.kk_frame.specs.declared.frame.TheConstants.{FRAME_BYTES}
use Rattle.kk_frame.specs.declared.limits.Limits.{Limits}
use Rattle.kk_frame.specs.declared.gate_count.GateCount.{GateCount}
use Rattle.kk_frame.specs.Events.{stop, taken, counts}
use Rattle.kk_machine.specs.declared.call.Call.{Call}
use Rattle.kk_machine.specs.declared.call.Call.TheVariants.{Insert, Freeze, Peek}
use Rattle.kk_machine.specs.declared.call.Entry.{Entry}
use Rattle.kk_machine.specs.Inserts.{EachCall, is_insert, tally, in_generation, froze, AreBelow}
use Rattle.kk_machine.specs.Goals.{AtGoal}
use Rattle.kk_table.specs.declared.answers.Inserted.{Inserted}
use Rattle.kk_table.specs.declared.answers.Inserted.TheVariants.{Innovative, Redundant, Late}
use Rattle.kk_table.specs.declared.view.Known.{Known}
use Rattle.kk_table.specs.Rule.{sight}
use Rattle.kk_table.specs.Pass.{PassView}
use Rattle.kk_workers.specs.declared.plan.Plan.{Plan}

-- ---- the calls of a pass

-- generation and row of the frame that a call inserts
abbrev pub brought : Call → List (ℕ × ℕ)
brought (Insert g row) = (g, row.0) ∷ []
brought (Freeze g) = []
brought (Peek g) = []

-- the frames that these calls insert, in order
unfoldable pub all_brought : List Entry → List (ℕ × ℕ)
all_brought [] = []
all_brought (e ∷ es) = brought e.call ++ all_brought es

-- Inserts alone; and with a goal also a freeze of a generation right after each insert whose reply has the goal as its rank.
abbrev pub InsertsFor : Option ℕ → List Entry → Type 0
InsertsFor None calls = EachCall is_insert calls
InsertsFor (Some n) calls = AtGoal n None calls

-- the answer to an insert is innovative with the goal as its rank
abbrev pub reaches : Option ℕ → Inserted → Bool
reaches None told = false
reaches (Some n) (Innovative rank) = rank == n
reaches (Some n) Redundant = false
reaches (Some n) Late = false

-- The pass stays at its table, with its number and its note.
pub record SamePass (p p' : PassView) : Type 0 where
  pub table : p'.table ≡ p.table
  pub number : p'.known.number ≡ p.known.number
  pub note : p'.known.note ≡ p.known.note

-- The answer of each generation that this pass froze, as no other did, is kept: that of the rows that it has seen, which are
-- then the whole log.
abbrev pub AreAnswers : Parameters → Known → List (Option (Option (List ℕ))) → Type 0
AreAnswers p k answers =
    (g : ℕ) → g < length answers
    → (0 < tally (in_generation g froze) k.calls → (slice_index_or answers g None ≡ Some (answer p (sight k g).rows)) × ((sight k g).closed ≡ true))
    × (tally (in_generation g froze) k.calls ≡ 0 → slice_index_or answers g None ≡ None)

-- ---- the events of a gate

-- A gate that has these events and no more has these counts, and the calls insert the data frames that are taken of it.
pub record CountsAndInserts (t : TicketFields) (limits : Limits) (events : List Event) (counted : GateCount) (calls : List Entry) : Type 0 where
  pub counts : counted ≡ counts FRAME_BYTES t limits events
  pub in_order : all_brought calls ≡ taken FRAME_BYTES t limits events

-- A gate was asked until it stopped, and no longer, and what it gave was counted and inserted. So it is of every gate, by the
-- events that it told; and where it tells all that it has left, by these.
pub record WasWorkedOff (t : TicketFields) (plan : Plan) (gate : Change GateTold) (counted : GateCount) (calls : List Entry) : Type 0 where
  pub logged : gate.new.events ≡ gate.old.events ++ events_told gate
  pub left : gate.old.left ≡ prepend_events (events_told gate) gate.new.left
  pub stopped : stop FRAME_BYTES t plan.limits (events_told gate) ≡ events_told gate
  pub few : length (events_told gate) ≤ (plan.limits.most + 1) * plan.limits.idle
  pub takes : CountsAndInserts t plan.limits (events_told gate) counted calls
  pub known : (all : List Event) → gate.old.left ≡ Some all
      → (stop FRAME_BYTES t plan.limits all ≡ events_told gate) × CountsAndInserts t plan.limits all counted calls
  pub inserts : InsertsFor plan.goal calls
  pub below : AreBelow (generations t) calls
