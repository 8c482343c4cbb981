-- A worker between the answers of its gate.
use Rattle.std.specs.Prelude.{◌≡◌, ℕ, ◌+◌, ◌*◌, ◌≤◌, List, [], ◌∷◌, ◌++◌, length, Option}
use Rattle.kk_outside.specs.Change.{Change}
use Rattle.kk_outside.specs.Gate.{GateTold}
use Rattle.kk_outside.specs.declared.event.Event.{Event}
use Rattle.kk_code.specs.Ticket.{TicketFields, generations}
use Rattle.kk_frame.specs.Asking.{HasAsked}
use Rattle.kk_frame.specs.Intake.{IntakeState, calls_left}
use Rattle.kk_machine.specs.declared.call.Call.TheVariants.{Freeze}
use Rattle.kk_machine.specs.declared.call.Reply.{Reply}
use Rattle.kk_machine.specs.declared.call.Entry.{Entry}
use Rattle.kk_machine.specs.History.{entry}
use Rattle.kk_machine.specs.Inserts.{AreBelow}
use Rattle.kk_table.specs.declared.view.Known.{Known}
use Rattle.kk_workers.specs.declared.inserter.Inserter.{Inserter}
use Rattle.kk_workers.specs.declared.plan.Plan.{Plan}
use Rattle.kk_workers.specs.declared.totals.Totals.{Totals}
use Rattle.kk_workers.specs.Totals.{totals_in, AreWithin}
use Rattle.kk_workers.specs.WorkerCalls.{all_brought, InsertsFor, AreAnswers}

-- The calls go on by one insert for each frame, in order, and with a goal by a freeze right after each insert that reaches it.
pub record InsertsInOrder (n : ℕ) (goal : Option ℕ) (calls calls' : List Entry) (frames : List (ℕ × ℕ)) : Type 0 where
  pub more : List Entry
  pub goes_on : calls' ≡ calls ++ more
  pub inserts : InsertsFor goal more
  pub below : AreBelow n more
  pub in_order : all_brought more ≡ frames

-- the calls go on by a freeze of the generation
pub record Freezes (g : ℕ) (k k' : Known) : Type 0 where
  pub reply : Reply
  pub call : k'.calls ≡ k.calls ++ entry k.number (Freeze g) reply ∷ []

-- the totals are those of the calls
pub record AreTotals (totals : Totals) (calls : List Entry) : Type 0 where
  pub are : totals ≡ totals_in calls
  pub within : AreWithin totals

-- The totals are those of the calls of the pass, and the answers are those of the generations that it froze.
pub record IsInserter (t : TicketFields) (i : Inserter) : Type 0 where
  pub totals : AreTotals i.totals i.pass.known.calls
  pub all : length i.answers.items ≡ generations t
  pub answers : AreAnswers t.code i.pass.known i.answers.items

-- All that the gate has told so far was given to the intake, and the data frames that the intake took of it were inserted.
pub record IsUnderWay (t : TicketFields) (plan : Plan) (gate : Change GateTold) (s : IntakeState) (calls : List Entry) : Type 0 where
  pub events : List Event
  pub frames : List (ℕ × ℕ)
  pub limited : s.limits ≡ plan.limits
  pub asked : HasAsked t gate events frames s
  pub few : length events + calls_left s ≤ (plan.limits.most + 1) * plan.limits.idle
  pub brings : InsertsInOrder (generations t) plan.goal [] calls frames
