-- The world: the words, the actors, and what each of them has seen; and its moves.
use Rattle.std.specs.Prelude.{◌≡◌, ◌≢◌, ℕ, ◌+◌, ◌^◌, ◌<◌, ◌≤◌, Bool, true, false, List, [], ◌∷◌, ◌++◌, length, replicate, slice_index_or, slice_set, Option, None}
use Rattle.kk_machine.specs.declared.log.TheConstants.{MAX_WIDTH}
use Rattle.kk_machine.specs.declared.log.Log.{Log}
use Rattle.kk_machine.specs.declared.call.Call.{Call}
use Rattle.kk_machine.specs.declared.call.Call.TheVariants.{Insert, Freeze}
use Rattle.kk_machine.specs.declared.call.Reply.{Reply}
use Rattle.kk_machine.specs.declared.call.Entry.{Entry}
use Rattle.kk_machine.specs.declared.moves.Move.{Move}
use Rattle.kk_machine.specs.declared.moves.Move.TheVariants.{Look, Put, Shut, Split, Join}
use Rattle.kk_machine.specs.Spaces.{unseen, generation_of, IsInWidth}
use Rattle.kk_machine.specs.History.{entries, log_of, Legal}
use Rattle.kk_machine.specs.Steps.{sight_after, exchanged, stored, changes, decided, word_at, IsLog, Sees}

-- whether the actor is live, and what it has seen of each generation
pub record Actor : Type 0 where
  pub live : Bool
  pub seen : List Log

-- the words by generation and place, and the actors by number; rows are below 2^width
pub record World : Type 0 where
  pub width : ℕ
  pub words : List (List ℕ)
  pub actors : List Actor

-- what stands for an actor that was not made
abbrev pub nobody : Actor
nobody = record { live = false; seen = [] }

-- an actor that has seen nothing
abbrev pub newcomer : ℕ → Actor
newcomer generations = record { live = true; seen = replicate generations unseen }

-- all words are 0, and actor 0, the founder, is alone
abbrev pub new_world : ℕ → ℕ → World
new_world generations width = record { width = width; words = replicate generations (replicate (width + 1) 0); actors = newcomer generations ∷ [] }

-- actor number a of a world
abbrev pub actor : World → ℕ → Actor
actor w a = slice_index_or w.actors a nobody

-- what the actor has seen of the generation
abbrev pub sight : World → ℕ → ℕ → Log
sight w a g = slice_index_or (actor w a).seen g unseen

-- the words of generation g, by their places
abbrev pub words_of : World → ℕ → List ℕ
words_of w g = slice_index_or w.words g []

-- the word of generation g at a place
abbrev pub word : World → ℕ → ℕ → ℕ
word w g place = slice_index_or (words_of w g) place 0

-- the word after what the actor has seen of the call's generation
abbrev pub next_word : World → ℕ → Call → ℕ
next_word w a call = word w (generation_of call) (length (sight w a (generation_of call)).rows)

-- the world with other actors
abbrev pub with_actors : World → List Actor → World
with_actors w actors = record { width = w.width; words = w.words; actors = actors }

-- the world after a load, or where `changing` after an exchange for the call
unfoldable pub tried : World → ℕ → Bool → Call → World
tried w a changing call =
    let g = generation_of call in
    let s = sight w a g in
    let now = exchanged (next_word w a call) (stored changing call) in
    record {
      width = w.width;
      words = slice_set w.words g (slice_set (words_of w g) (length s.rows) now);
      actors = slice_set w.actors a (record { live = true; seen = slice_set (actor w a).seen g (sight_after s now) });
    }

-- the reply to the call, where the load or exchange decides it
abbrev pub tried_reply : World → ℕ → Bool → Call → Option Reply
tried_reply w a changing call = decided changing (sight w a (generation_of call)) (next_word w a call) call

-- the world after a move
abbrev pub moved : World → Move → World
moved w (Look a call) = tried w a false call
moved w (Put a g row) = tried w a true (Insert g row)
moved w (Shut a g) = tried w a true (Freeze g)
moved w Split = with_actors w (w.actors ++ newcomer (length w.words) ∷ [])
moved w (Join a) = with_actors w (slice_set w.actors a (record { live = false; seen = (actor w a).seen }))

-- the reply to the call that a move decides
abbrev pub reply_by : World → Move → Option Reply
reply_by w (Look a call) = tried_reply w a false call
reply_by w (Put a g row) = tried_reply w a true (Insert g row)
reply_by w (Shut a g) = tried_reply w a true (Freeze g)
reply_by w Split = None
reply_by w (Join a) = None

-- what a move adds to the history
abbrev pub decided_by : World → Move → List Entry
decided_by w (Look a call) = entries a call (reply_by w (Look a call))
decided_by w (Put a g row) = entries a (Insert g row) (reply_by w (Put a g row))
decided_by w (Shut a g) = entries a (Freeze g) (reply_by w (Shut a g))
decided_by w Split = []
decided_by w (Join a) = []

-- the actor is live, and isn't the founder
pub record IsPass (w : World) (a : ℕ) : Type 0 where
  pub alive : (actor w a).live ≡ true
  pub not_founder : 0 < a

-- a load of the next word is allowed, or an exchange for the call where `changing`: then the actor doesn't know the
-- generation closed, and the call would change what it has seen
pub record MayTry (w : World) (a : ℕ) (changing : Bool) (call : Call) : Type 0 where
  pub pass : IsPass w a
  pub generation : generation_of call < length w.words
  pub row : IsInWidth w.width call
  pub not_closed : changing ≡ true → (sight w a (generation_of call)).closed ≡ false
  pub would_change : changing ≡ true → changes (sight w a (generation_of call)) call ≡ true

-- the move is allowed
abbrev pub May : World → Move → Type 0
May w (Look a call) = MayTry w a false call
May w (Put a g row) = MayTry w a true (Insert g row)
May w (Shut a g) = MayTry w a true (Freeze g)
May w Split = length w.actors < 2 ^ 32
May w (Join a) = IsPass w a

-- the world after these moves
unfoldable pub run : World → List Move → World
run w [] = w
run w (m ∷ ms) = run (moved w m) ms

-- the calls that these moves decide, in the order of the deciding moves
unfoldable pub history : World → List Move → List Entry
history w [] = []
history w (m ∷ ms) = decided_by w m ++ history (moved w m) ms

-- each move is allowed when it comes
unfoldable pub AllMay : World → List Move → Type 0
AllMay w [] = Unit {0}
AllMay w (m ∷ ms) = May w m × AllMay (moved w m) ms

-- each generation has its places, and each live actor a sight of each generation
pub record IsShaped (w : World) : Type 0 where
  pub fits : w.width ≤ MAX_WIDTH
  pub places : (g : ℕ) → g < length w.words → length (words_of w g) ≡ w.width + 1
  pub sights : (a : ℕ) → (actor w a).live ≡ true → length (actor w a).seen ≡ length w.words

-- the words are those of the logs after a legal history, and each live actor has seen a prefix of these logs
pub record IsOf (h : List Entry) (w : World) : Type 0 where
  pub legal : Legal h
  pub logs : (g : ℕ) → g < length w.words → IsLog w.width (log_of g h)
  pub words : (g place : ℕ) → g < length w.words → place ≤ w.width → word w g place ≡ word_at (log_of g h) place
  pub seen : (a g : ℕ) → (actor w a).live ≡ true → g < length w.words → Sees (log_of g h) (sight w a g)

-- no word that isn't 0 is another one later
abbrev pub StandsFrom : World → World → Type 0
StandsFrom w later = (g place : ℕ) → g < length w.words → place ≤ w.width → word w g place ≢ 0 → word later g place ≡ word w g place
