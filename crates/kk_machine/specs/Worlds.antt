-- The world as its fields keep it.
use Rattle.std.specs.Prelude.{◌≡◌, ℕ, ◌<◌, ◌^◌, List, map, length, All}
use Rattle.std.specs.declared.alloc.Global.{Global}
use Rattle.std.specs.declared.vec.Vec.{Vec}
use Rattle.kk_machine.specs.declared.call.Entry.{Entry}
use Rattle.kk_machine.specs.declared.world.Actor.{Actor as KeptActor}
use Rattle.kk_machine.specs.World.{Actor, IsShaped, IsOf}

-- the words that are kept in vectors, one for each generation, as lists
abbrev pub words_in : List (Vec ℕ Global) → List (List ℕ)
words_in words = map (λ v. v.items) words

-- an actor as it is kept, as clauses see it
abbrev pub actor_in : KeptActor → Actor
actor_in a = record { live = a.live; seen = a.seen.logs }

-- actors as they are kept, as clauses see them
abbrev pub actors_in : List KeptActor → List Actor
actors_in actors = map actor_in actors

-- some legal history leads to the world, and all that was seen has its width
pub record IsWorld (width : ℕ) (words : List (Vec ℕ Global)) (actors : List KeptActor) : Type 0 where
  pub some_width : 0 < width
  pub few : length words < 2 ^ 32
  pub shaped : IsShaped (record { width = width; words = words_in words; actors = actors_in actors })
  pub reached : (h : List Entry) × IsOf h (record { width = width; words = words_in words; actors = actors_in actors })
  pub widths : All (λ a. a.seen.width ≡ width) actors
