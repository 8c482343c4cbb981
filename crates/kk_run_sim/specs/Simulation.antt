-- A file from the words of a generator, through an operator channel and back: what a run under a ticket makes of it.
use Rattle.std.specs.Prelude.{◌≡◌, ◌↔◌, ◌⊎◌, ℕ, ◌+◌, ◌-◌, ◌*◌, ◌<◌, ◌≤◌, if◌then◌else◌, List, [], ◌∷◌, ◌++◌, map, Option, Some, None, is_some, refl, codes}
use Rattle.std.specs.Fmt.{decimal, digits}
use Rattle.std.specs.List.{count_by, range_with_len}
use Rattle.std.specs.Str.{bytes_eq}
use Rattle.kk_outside.specs.Causes.{CanCount}
use Rattle.kk_outside.specs.Change.{Change}
use Rattle.kk_outside.specs.Gate.{GateTold, events_told}
use Rattle.kk_outside.specs.GateState.{told}
use Rattle.kk_outside.specs.Sink.{SinkTold, SinkFailed, WasGiven}
use Rattle.kk_code.specs.Decoding.{answer}
use Rattle.kk_code.specs.Ticket.{TicketFields, generations}
use Rattle.kk_assemble.specs.FileBits.{cut}
use Rattle.kk_table.specs.Logs.{LogsView}
use Rattle.kk_trial.specs.declared.operator_channel.OperatorChannel.{OperatorChannel}
use Rattle.kk_trial.specs.Trial.{made_file, received_rows, trial_frames, dealt, trial_events, trial_gates}
use Rattle.kk_words.specs.Arguments.{default_of}
use Rattle.kk_words.specs.declared.argument.Name.TheVariants.{Idle, Most}
use Rattle.kk_workers.specs.declared.plan.Plan.{Plan}
use Rattle.kk_workers.specs.declared.totals.Totals.{Totals}
use Rattle.kk_workers.specs.Received.{ReceivedView, HasOneHistory, AddUp}
use Rattle.kk_run_sim.specs.declared.simulation.Fate.{Fate}
use Rattle.kk_run_sim.specs.declared.simulation.Fate.TheVariants.{Missing, Different, Equal}
use Rattle.kk_outcome.specs.Answers.{file_of}
use Rattle.kk_report.specs.Command.{RanThrough}
use Rattle.kk_outcome.specs.Outcome.{count_line, inserts_line, unfrozen_totals}
use Rattle.kk_report.specs.Report.{status_line}

-- ---- what comes out of the channel

-- what the rows of each generation decode to, after the channel
abbrev pub answers_after : TicketFields → OperatorChannel → (ℕ → ℕ) → List (Option (List ℕ))
answers_after t loss word = map (λ g. answer t.code (received_rows t loss word g)) (range_with_len 0 (generations t))

-- the file that these answers make, where each is a message
unfoldable pub file_after : TicketFields → OperatorChannel → (ℕ → ℕ) → Option (List ℕ)
file_after t loss word = file_of t (answers_after t loss word)

-- how many rows come out of the channel, for all generations together
abbrev pub rows_after : TicketFields → OperatorChannel → ℕ
rows_after t loss = generations t * (t.code.l - loss.erase + loss.inject)

-- ---- the summary

-- what became of the file that was made, by the one that was put together
abbrev pub fate_of : Option (List ℕ) → List ℕ → Fate
fate_of None made = Missing
fate_of (Some file) made = if bytes_eq file made then Equal else Different

-- how the summary tells what became of the file
abbrev pub fate_word : Fate → List ℕ
fate_word Missing = codes "none"
fate_word Different = codes "different"
fate_word Equal = codes "equal"

-- the status of a run in which that became of the file
abbrev pub status_of_fate : Fate → ℕ
status_of_fate Missing = 3
status_of_fate Different = 0
status_of_fate Equal = 0

-- how many generations there are, how many of them have an answer, how the inserts were answered, and what became of the file
abbrev pub summary : ℕ → ℕ → Totals → Fate → List ℕ
summary generations decoded totals fate =
    count_line generations ++ codes "decoded " ++ decimal decoded ++ codes "\n" ++ inserts_line totals ++ codes "file " ++ fate_word fate ++ codes "\n"

-- how all rows are inserted: each is innovative, since those of a generation are independent
abbrev pub totals_after : TicketFields → OperatorChannel → Totals
totals_after t loss = unfrozen_totals (rows_after t loss) (rows_after t loss)

-- what becomes of the file
abbrev pub fate_after : TicketFields → OperatorChannel → (ℕ → ℕ) → Fate
fate_after t loss word = fate_of (file_after t loss word) (made_file t.length word)

-- the summary of a run, in which no number of gates occurs
abbrev pub summary_of : TicketFields → OperatorChannel → (ℕ → ℕ) → List ℕ
summary_of t loss word = summary (generations t) (count_by is_some (answers_after t loss word)) (totals_after t loss) (fate_after t loss word)

-- the summary where the file that was put together is the one that was made
abbrev pub equal_summary : TicketFields → OperatorChannel → List ℕ
equal_summary t loss = summary (generations t) (generations t) (totals_after t loss) Equal

-- ---- the run

-- what the receiver is to do: no generation is closed before all gates have ended, and each gate has its limits by default
abbrev pub trial_plan : Plan
trial_plan = record { limits = record { idle = 300; most = 10000000 }; goal = None }

pub limits_by_default : (default_of Idle ≡ Some trial_plan.limits.idle) × (default_of Most ≡ Some trial_plan.limits.most)
limits_by_default = (refl, refl)

-- These are n gates in memory over which the frames were dealt, and each gave all of its own.
pub record GaveAll (t : TicketFields) (loss : OperatorChannel) (n : ℕ) (word : ℕ → ℕ) (gates : List (Change GateTold)) : Type 0 where
  pub before : map (λ gate. gate.old) gates ≡ map told (trial_gates t loss n word)
  pub events : map events_told gates ≡ map (λ i. trial_events t (dealt n i (trial_frames t loss word))) (range_with_len 0 n)

-- A run under this ticket, over n gates. One history has every row that came out of the channel as an insert, and the run
-- leaves its logs.
pub record IsSimulation (t : TicketFields) (loss : OperatorChannel) (n : ℕ) (word : ℕ → ℕ) (report : Change SinkTold) (logs : List LogsView) (status : ℕ) : Type 0 where
  pub view : ReceivedView
  pub kept : logs ≡ view.logs ∷ []
  pub gates : List (Change GateTold)
  pub gave_all : GaveAll t loss n word gates
  pub one_history : HasOneHistory t trial_plan gates view
  pub add_up : AddUp t trial_plan gates view
  -- Its answers are those to the rows of each generation.
  pub answered : view.answers ≡ answers_after t loss word
  -- Which status comes; 0 comes where no other does.
  pub not_decoded : (status ≡ 3) ↔ (file_after t loss word ≡ None)
  pub output_fault : CanCount report.old.faults → RanThrough status → ((status ≡ 5) ↔ SinkFailed report)
  pub no_other_status : (status ≡ 3) ⊎ RanThrough status
  -- What the report's sink holds: the same for each number of gates.
  pub reported : WasGiven (summary_of t loss word ++ status_line (status_of_fate (fate_after t loss word))) report
  -- On the radius and within it the file is the one that was made, and beyond it no answer is the generation's message.
  pub within_radius : loss.erase + loss.inject ≤ t.code.l - t.code.k
      → RanThrough status × (file_after t loss word ≡ Some (made_file t.length word)) × WasGiven (equal_summary t loss ++ status_line 0) report
  pub beyond_radius : t.code.l - t.code.k < loss.erase + loss.inject
      → (g : ℕ) → answer t.code (received_rows t loss word g) ≡ Some (cut t.code (made_file t.length word) g) → ⊥

-- ---- worked

-- 1,058 generations, each with 24 rows
pub all_equal : summary 1058 1058 (unfrozen_totals 25392 25392) (fate_of (Some (7 ∷ 9 ∷ [])) (7 ∷ 9 ∷ []))
    ≡ codes "generations 1058\ndecoded 1058\ninserts 25392 innovative 25392 redundant 0 late 0\nfile equal\n"
unfolding digits
all_equal = refl

-- two generations, of which one has no answer
pub one_of_two : summary 2 1 (unfrozen_totals 7 7) (fate_of None (7 ∷ [])) ≡ codes "generations 2\ndecoded 1\ninserts 7 innovative 7 redundant 0 late 0\nfile none\n"
unfolding digits
one_of_two = refl

pub another_byte : fate_word (fate_of (Some (7 ∷ 8 ∷ [])) (7 ∷ 9 ∷ [])) ≡ codes "different"
another_byte = refl
