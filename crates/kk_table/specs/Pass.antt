-- A pass as clauses see it.
use Rattle.std.specs.Prelude.{◌≡◌, ◌≢◌, ℕ, ◌+◌, ◌<◌, ◌≤◌, Bool, true, List, [], ◌∷◌, ◌++◌, length, Option, Some, None}
use Rattle.atomic_table.specs.Table.{Me}
use Rattle.kk_rows.specs.Span.{in_span}
use Rattle.kk_machine.specs.declared.log.Log.{Log}
use Rattle.kk_machine.specs.declared.call.Call.{Call}
use Rattle.kk_machine.specs.declared.call.Call.TheVariants.{Insert, Freeze, Peek}
use Rattle.kk_machine.specs.declared.call.Reply.{Reply}
use Rattle.kk_machine.specs.declared.call.Reply.TheVariants.{Innovative, Redundant, Late, Frozen, Already, Rank}
use Rattle.kk_machine.specs.Spaces.{generation_of}
use Rattle.kk_machine.specs.History.{entry}
use Rattle.kk_machine.specs.Sights.{Seen, logs_of, HaveWidth}
use Rattle.kk_table.specs.declared.view.Shape.{Shape}
use Rattle.kk_table.specs.declared.view.Known.{Known}
use Rattle.kk_table.specs.declared.view.View.{View}
use Rattle.kk_table.specs.declared.view.View.TheVariants.{Founder, Pass, Spent}
use Rattle.kk_table.specs.Places.{place_of}
use Rattle.kk_table.specs.Rule.{sight, IsAllowed}
use Rattle.kk_table.specs.Table.{TableView}

-- whose table, and what the pass knows
pub record PassView : Type 0 where
  pub table : TableView
  pub known : Known

-- what stands for the knowledge of a seat that is no pass
abbrev pub stranger : Known
stranger = record { number = 0; note = []; calls = []; seen = []; accesses = 0 }

-- what the pass of this view knows
abbrev pub known_in : View → Known
known_in (Founder generations given records) = stranger
known_in (Pass k) = k
known_in Spent = stranger

-- the seat is that of a pass
abbrev pub IsPassing : Me (Unit {0}) View → Type 0
IsPassing me = me ≡ (Pass (known_in me.0), [])

-- the seat's view is that of a pass, which has seen what is kept
pub record IsPass (shape : Shape) (number : ℕ) (me : Me (Unit {0}) View) (seen : List Seen) : Type 0 where
  pub knows : IsPassing me
  pub numbered : (known_in me.0).number ≡ number
  pub sights : (known_in me.0).seen ≡ logs_of seen
  pub widths : HaveWidth shape.width seen
  pub all : length seen ≡ shape.generations

-- the seat of a pass may make a step for the call on this word
pub record IsAimed (key : Shape) (width : ℕ) (changing : Bool) (call : Call) (me : Me (Unit {0}) View) (word words : ℕ) : Type 0 where
  pub knows : IsPassing me
  pub wide : key.width ≡ width
  pub in_range : generation_of call < key.generations
  pub here : word ≡ place_of width (generation_of call) (length (sight (known_in me.0) (generation_of call)).rows)
  pub inside : word < words
  pub allowed : IsAllowed width changing call (sight (known_in me.0) (generation_of call))

-- What a pass knows goes on in one generation alone: what was seen of it grows at its end, and if it was known closed,
-- it stays as it is. The number and the note stay.
pub record GoesOn (g : ℕ) (k k' : Known) : Type 0 where
  pub number : k'.number ≡ k.number
  pub note : k'.note ≡ k.note
  pub others : (j : ℕ) → j ≢ g → sight k' j ≡ sight k j
  pub grows : (more : List ℕ) × ((sight k' g).rows ≡ (sight k g).rows ++ more)
  pub closed : (sight k g).closed ≡ true → sight k' g ≡ sight k g

-- at most one access for each row by which what is seen of the generation grows, and one more
abbrev pub AccessesAtMost : ℕ → Known → Known → Type 0
AccessesAtMost g k k' = k'.accesses + length (sight k g).rows ≤ k.accesses + length (sight k' g).rows + 1

-- what the reply to a call says of what is then seen of its generation
abbrev pub Told : Call → Log → Reply → Type 0
Told (Insert g row) s (Innovative rank) = (rank ≡ length s.rows) × ((front : List ℕ) × (s.rows ≡ front ++ row.0 ∷ []))
Told (Insert g row) s Redundant = in_span s.rows row.0 ≡ true
Told (Insert g row) s Late = s.closed ≡ true
Told (Freeze g) s (Frozen rank) = (rank ≡ length s.rows) × (s.closed ≡ true)
Told (Freeze g) s Already = s.closed ≡ true
Told (Peek g) s (Rank rank) = rank ≡ length s.rows
Told call s reply = ⊥

-- a step for a call shows one row more, or answers the call
abbrev pub StepsOn : Call → Known → Known → Option Reply → Type 0
StepsOn call k k' None = (k'.calls ≡ k.calls) × (length (sight k' (generation_of call)).rows ≡ length (sight k (generation_of call)).rows + 1)
StepsOn call k k' (Some reply) = (k'.calls ≡ k.calls ++ entry k.number call reply ∷ []) × Told call (sight k' (generation_of call)) reply
