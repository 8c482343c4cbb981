-- The calls of a pass that freezes at a goal.
use Rattle.std.proofs.Common.{◌≡◌, ℕ, ◌==◌, ◌<◌, Bool, true, false, if◌then◌else◌, List, [], ◌∷◌, ◌++◌, Option, Some, None, refl, sym, subst, true≢false, arith}
use Rattle.kk_rows.specs.declared.rows.Row.{Row}
use Rattle.kk_machine.specs.declared.call.Call.TheVariants.{Insert, Freeze}
use Rattle.kk_machine.specs.declared.call.Reply.{Reply}
use Rattle.kk_machine.specs.declared.call.Entry.{Entry}
use Rattle.kk_machine.specs.Spaces.{generation_of}
use Rattle.kk_machine.specs.History.{entry}
use Rattle.kk_machine.specs.Inserts.{is_insert, tally, freezes, in_generation, with_rank}
use Rattle.kk_machine.specs.Goals.{AtGoal, due_if}
use Rattle.kk_machine.proofs.Goals.{goal_reached}
use Rattle.kk_machine.proofs.Tallies.{EachCall-none, EachCall-append, EachCall-one, inserts_freeze_none}
use Rattle.kk_table.specs.declared.answers.Inserted.{Inserted}
use Rattle.kk_table.specs.declared.answers.Inserted.TheVariants.{Innovative, Redundant, Late}
use Rattle.kk_table.specs.Answers.{insert_reply}
use Rattle.kk_workers.specs.WorkerCalls.{InsertsFor, reaches}

pub InsertsFor-none : (goal : Option ℕ) → InsertsFor goal []
unfolding AtGoal
InsertsFor-none None = EachCall-none is_insert
InsertsFor-none (Some n) = tt

AtGoal-append : (n : ℕ) (due : Option ℕ) (a b : List Entry) → AtGoal n due a → AtGoal n None b → AtGoal n due (a ++ b)
unfolding AtGoal
AtGoal-append n None [] b first later = later
AtGoal-append n (Some g) [] b first later = absurd first
AtGoal-append n None (e ∷ es) b first later = (first.0, AtGoal-append n (due_if n (generation_of e.call) e.reply) es b first.1 later)
AtGoal-append n (Some g) (e ∷ es) b first later = (first.0, AtGoal-append n None es b first.1 later)

pub InsertsFor-append : (goal : Option ℕ) (a b : List Entry) → InsertsFor goal a → InsertsFor goal b → InsertsFor goal (a ++ b)
InsertsFor-append None a b first later = EachCall-append is_insert a b first later
InsertsFor-append (Some n) a b first later = AtGoal-append n None a b first later

-- ---- one insert

none_due : (b : Bool) (g : ℕ) → b ≡ false → (if b then Some g else None) ≡ None
none_due true g is = absurd (true≢false is)
none_due false g is = refl

one_due : (b : Bool) (g : ℕ) → b ≡ true → (if b then Some g else None) ≡ Some g
one_due true g is = refl
one_due false g is = absurd (true≢false (sym is))

-- an insert by itself, which doesn't reach the goal
pub inserts_alone : (goal : Option ℕ) (number g : ℕ) (row : Row) (answer : Inserted) → reaches goal answer ≡ false → InsertsFor goal (entry number (Insert g row) (insert_reply answer) ∷ [])
unfolding AtGoal
inserts_alone None number g row answer short = EachCall-one is_insert (entry number (Insert g row) (insert_reply answer)) refl
inserts_alone (Some n) number g row (Innovative rank) short = (refl, subst (λ (due : Option ℕ). AtGoal n due []) (sym (none_due (rank == n) g short)) tt)
inserts_alone (Some n) number g row Redundant short = (refl, tt)
inserts_alone (Some n) number g row Late short = (refl, tt)

-- an insert that reaches the goal, and the freeze of its generation
pub inserts_to_goal : (goal : Option ℕ) (number number' g : ℕ) (row : Row) (answer : Inserted) (reply : Reply) → reaches goal answer ≡ true
    → InsertsFor goal (entry number (Insert g row) (insert_reply answer) ∷ entry number' (Freeze g) reply ∷ [])
unfolding AtGoal
inserts_to_goal None number number' g row answer reply there = absurd (true≢false (sym there))
inserts_to_goal (Some n) number number' g row (Innovative rank) reply there =
    (refl, subst (λ (due : Option ℕ). AtGoal n due (entry number' (Freeze g) reply ∷ [])) (sym (one_due (rank == n) g there)) (refl, tt))
inserts_to_goal (Some n) number number' g row Redundant reply there = absurd (true≢false (sym there))
inserts_to_goal (Some n) number number' g row Late reply there = absurd (true≢false (sym there))

-- ---- a freeze

-- who freezes a generation was told the goal as the rank of an insert into it
pub told_goal : (goal : Option ℕ) (g : ℕ) (calls : List Entry) → InsertsFor goal calls → 0 < tally (freezes g) calls → (n : ℕ) × (goal ≡ Some n) × (0 < tally (in_generation g (with_rank n)) calls)
told_goal None g calls each some = absurd (omega (arith, some, inserts_freeze_none g calls each))
told_goal (Some n) g calls at some = (n, refl, goal_reached n g calls at some)
