-- The laws of worlds and histories.
use Rattle.std.specs.Prelude.{◌≡◌, ◌⊎◌, ℕ, ◌+◌, ◌<◌, ◌≤◌, List, [], ◌++◌, length, Contains, Option, Some, None}
use Rattle.kk_machine.specs.declared.log.TheConstants.{MAX_WIDTH}
use Rattle.kk_rows.specs.Span.{in_span}
use Rattle.kk_machine.specs.declared.moves.Move.{Move}
use Rattle.kk_machine.specs.declared.call.Reply.{Reply}
use Rattle.kk_machine.specs.declared.call.Entry.{Entry}
use Rattle.kk_machine.specs.History.{log_of, Legal, own}
use Rattle.kk_machine.specs.Inserts.{rows_into, InTime, tally, in_generation, of_reply, inserts, one_if, innovative, redundant, with_rank, late, froze, freezes, sum_below, AreBelow, ClosedLast, FrozenBy}
use Rattle.kk_machine.specs.Goals.{AtGoal}
use Rattle.kk_machine.specs.World.{new_world, run, history, AllMay, IsOf, StandsFrom}

-- whatever moves are made, each allowed when it comes, the world is that of their history, and no word that isn't 0
-- changes by further moves
abbrev pub EveryRunIsLegal : Type 0
EveryRunIsLegal =
    (generations width : ℕ) (moves more : List Move) → 0 < width → width ≤ MAX_WIDTH → AllMay (new_world generations width) (moves ++ more)
    → IsOf (history (new_world generations width) moves) (run (new_world generations width) moves)
    × StandsFrom (run (new_world generations width) moves) (run (new_world generations width) (moves ++ more))

-- the replies of a generation: the innovative ones are as many as its rows, at most one of them has a given rank, and one
-- freeze is told that it froze exactly where the generation is closed
pub record AreCounted (g : ℕ) (h : List Entry) : Type 0 where
  pub innovative : tally (in_generation g innovative) h ≡ length (log_of g h).rows
  pub rank_once : (n : ℕ) → tally (in_generation g (with_rank n)) h ≤ 1
  pub frozen_once : tally (in_generation g froze) h ≡ one_if (log_of g h).closed

-- in every legal history the replies of each generation are counted so
abbrev pub RepliesAreCounted : Type 0
RepliesAreCounted = (g : ℕ) (h : List Entry) → Legal h → AreCounted g h

-- where no row comes after a freeze, the log spans all rows that came, and no insert is late
abbrev pub TimelyRowsAreSpanned : Type 0
TimelyRowsAreSpanned =
    (g : ℕ) (h : List Entry) → Legal h → InTime g h
    → ((x : ℕ) → in_span (log_of g h).rows x ≡ in_span (rows_into g h) x) × (tally (in_generation g late) h ≡ 0)

-- no row comes after a freeze where one number alone freezes, after all others
abbrev pub ClosedLastIsInTime : Type 0
ClosedLastIsInTime = (c g : ℕ) (h : List Entry) → ClosedLast c g h → InTime g h

-- a log is a frozen space of the rows that came, where no row came after a freeze, or some insert was told the goal as
-- its rank. `rows` has the same members as the rows that came, in whatever order
abbrev pub LogsAreFrozenSpaces : Type 0
LogsAreFrozenSpaces =
    (g : ℕ) (h : List Entry) (rows : List ℕ) (goal : Option ℕ) → Legal h
    → ((x : ℕ) → Contains rows x → Contains (rows_into g h) x) → ((x : ℕ) → Contains (rows_into g h) x → Contains rows x)
    → InTime g h ⊎ ((n : ℕ) × (goal ≡ Some n) × (0 < tally (in_generation g (with_rank n)) h)) → FrozenBy (log_of g h).rows rows goal

-- one that freezes at a goal alone freezes a generation only where an insert of its own was told the goal as its rank
abbrev pub FreezesWaitForTheGoal : Type 0
FreezesWaitForTheGoal =
    (n g : ℕ) (calls : List Entry) → AtGoal n None calls → 0 < tally (freezes g) calls → 0 < tally (in_generation g (with_rank n)) calls

-- where all numbers are below c, a count over the history is the sum of the counts over the calls of each number
abbrev pub TalliesAddUp : Type 0
TalliesAddUp =
    (count : Entry → ℕ) (c : ℕ) (h : List Entry) → ((n : ℕ) → c ≤ n → own n h ≡ []) → tally count h ≡ sum_below c (λ n. tally count (own n h))

-- where all generations are below n, a count over the replies of a history is the sum of the counts in each generation
abbrev pub RepliesAddUp : Type 0
RepliesAddUp =
    (count : Reply → ℕ) (n : ℕ) (h : List Entry) → AreBelow n h → tally (of_reply count) h ≡ sum_below n (λ g. tally (in_generation g count) h)

-- in a legal history each insert is innovative, redundant or late, and no other call is
abbrev pub InsertsAreOfThreeKinds : Type 0
InsertsAreOfThreeKinds =
    (h : List Entry) → Legal h → tally inserts h ≡ tally (of_reply innovative) h + tally (of_reply redundant) h + tally (of_reply late) h
