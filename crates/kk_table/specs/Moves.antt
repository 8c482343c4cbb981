-- The atomic steps of a table as moves of the pure machine.
use Rattle.std.specs.Prelude.{◌≡◌, ℕ, ◌+◌, ◌^◌, ◌<◌, Bool, if◌then◌else◌, List, [], ◌∷◌, ◌++◌, length, replicate, slice_index, slice_set}
use mathlib.Core.Option.{some}
use lib.ListN.{get_elem?}
use Rattle.kk_machine.specs.declared.log.Log.{Log}
use Rattle.kk_machine.specs.declared.call.Call.{Call}
use Rattle.kk_machine.specs.declared.call.Call.TheVariants.{Insert, Freeze, Peek}
use Rattle.kk_machine.specs.declared.call.Entry.{Entry}
use Rattle.kk_machine.specs.declared.moves.Move.{Move}
use Rattle.kk_machine.specs.declared.moves.Move.TheVariants.{Look, Put, Shut, Split, Join}
use Rattle.kk_machine.specs.Spaces.{generation_of}
use Rattle.kk_machine.specs.Steps.{exchanged, stored, decided}
use Rattle.kk_machine.specs.History.{entries}
use Rattle.kk_machine.specs.World.{World, new_world, moved, decided_by, May}
use Rattle.kk_table.specs.declared.view.Shape.{Shape}
use Rattle.kk_table.specs.declared.view.Known.{Known}
use Rattle.kk_table.specs.declared.view.View.{View}
use Rattle.kk_table.specs.declared.view.View.TheVariants.{Founder, Pass, Spent}
use Rattle.kk_table.specs.Places.{place_of}
use Rattle.kk_table.specs.Worlds.{IsWorldOf}
use Rattle.kk_table.specs.Rule.{sight, known_after, newcomer, founder_first, IsAllowed, IsKept}

-- In the world w the move is allowed, decides the calls of these entries, and leads to the world of these words and views.
pub record IsMove (shape : Shape) (words : List ℕ) (views : List View) (w : World) (m : Move) (more : List Entry) : Type 0 where
  pub may : May w m
  pub decides : decided_by w m ≡ more
  pub leads : IsWorldOf shape words views (moved w m)

-- the move of pass n that is an exchange for the call
abbrev pub exchange_of : ℕ → Call → Move
exchange_of n (Insert g row) = Put n g row
exchange_of n (Freeze g) = Shut n g
exchange_of n (Peek g) = Look n (Peek g)

-- The move of pass n that a step for the call is, where the pass has seen s. Who knows the log closed finds the mark, and an
-- exchange does then what a load does.
abbrev pub move_of : Bool → ℕ → Log → Call → Move
move_of changing n s call = if changing then (if s.closed then Look n call else exchange_of n call) else Look n call

-- the first word that a pass hasn't seen of the call's generation
abbrev pub next_place : Shape → Known → Call → ℕ
next_place shape k call = place_of shape.width (generation_of call) (length (sight k (generation_of call)).rows)

-- a new table is a new world
abbrev pub BeginsAsWorld : Type 0
BeginsAsWorld =
    (shape : Shape) → IsWorldOf shape (replicate (place_of shape.width shape.generations 0) 0) (founder_first shape ∷ []) (new_world shape.generations shape.width)

-- a load or an exchange by a pass is a look, a put or a shut by its actor
abbrev pub StepsAreMoves : Type 0
StepsAreMoves =
    (shape : Shape) (h : List Entry) (given : ℕ) (records : List Known) (words : List ℕ) (views : List View) (w : World) (n : ℕ) (k : Known) (changing : Bool) (call : Call)
    → IsKept shape h given records words views → IsWorldOf shape words views w → get_elem? views n ≡ some (Pass k)
    → generation_of call < shape.generations → IsAllowed shape.width changing call (sight k (generation_of call))
    → (f : ℕ) → slice_index words (next_place shape k call) ≡ f
    → IsMove shape (slice_set words (next_place shape k call) (exchanged f (stored changing call))) (slice_set views n (Pass (known_after changing call k f))) w
    (move_of changing n (sight k (generation_of call)) call) (entries n call (decided changing (sight k (generation_of call)) f call))

-- the gift of a pass is a split
abbrev pub GiftsAreMoves : Type 0
GiftsAreMoves =
    (shape : Shape) (h : List Entry) (given : ℕ) (records : List Known) (words : List ℕ) (views : List View) (w : World)
    → IsKept shape h given records words views → IsWorldOf shape words views w → given + 1 < 2 ^ 32
    → IsMove shape words (slice_set views 0 (Founder shape.generations (given + 1) records) ++ Pass (newcomer shape.generations given records) ∷ []) w Split []

-- the return of a pass is a join
abbrev pub ReturnsAreMoves : Type 0
ReturnsAreMoves =
    (shape : Shape) (h : List Entry) (given : ℕ) (records : List Known) (words : List ℕ) (views : List View) (w : World) (n : ℕ) (k : Known)
    → IsKept shape h given records words views → IsWorldOf shape words views w → get_elem? views n ≡ some (Pass k)
    → IsMove shape words (slice_set (slice_set views 0 (Founder shape.generations given (records ++ k ∷ []))) n Spent) w (Join n) []
