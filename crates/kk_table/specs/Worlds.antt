-- The words and the seats of a table as a world of the pure machine.
use Rattle.std.specs.Prelude.{◌≡◌, ℕ, ◌+◌, ◌<◌, ◌≤◌, true, false, List, length, slice_index}
use mathlib.Core.Option.{some}
use lib.ListN.{get_elem?}
use Rattle.kk_machine.specs.declared.call.Entry.{Entry}
use Rattle.kk_machine.specs.declared.moves.Move.{Move}
use Rattle.kk_machine.specs.World.{World, Actor, new_world, actor, word, words_of, run, history, AllMay}
use Rattle.kk_table.specs.declared.view.Shape.{Shape}
use Rattle.kk_table.specs.declared.view.View.{View}
use Rattle.kk_table.specs.declared.view.View.TheVariants.{Founder, Pass, Spent}
use Rattle.kk_table.specs.Places.{place_of}

-- the actor has seen what the view says that its seat has seen
abbrev pub IsActor : View → Actor → Type 0
IsActor (Founder generations given records) a = a.live ≡ true
IsActor (Pass k) a = (a.live ≡ true) × (a.seen ≡ k.seen)
IsActor Spent a = a.live ≡ false

-- the words of a table are those of the world, and its seats are the actors, by their numbers
pub record IsWorldOf (shape : Shape) (words : List ℕ) (views : List View) (w : World) : Type 0 where
  pub width : w.width ≡ shape.width
  pub generations : length w.words ≡ shape.generations
  pub places : (g : ℕ) → g < shape.generations → length (words_of w g) ≡ shape.width + 1
  pub placed : (g p : ℕ) → g < shape.generations → p ≤ shape.width → word w g p ≡ slice_index words (place_of shape.width g p)
  pub counted : length w.actors ≡ length views
  pub actors : (n : ℕ) (v : View) → get_elem? views n ≡ some v → IsActor v (actor w n)

-- moves from a new world, each allowed when it comes, decide exactly the calls of this history, in its order
pub record HasMoves (shape : Shape) (h : List Entry) : Type 0 where
  pub moves : List Move
  pub may : AllMay (new_world shape.generations shape.width) moves
  pub decided : history (new_world shape.generations shape.width) moves ≡ h

-- such moves lead to the world of these words and views
pub record IsReached (shape : Shape) (h : List Entry) (words : List ℕ) (views : List View) : Type 0 where
  pub by : HasMoves shape h
  pub world : IsWorldOf shape words views (run (new_world shape.generations shape.width) by.moves)
