-- The rule of the shared table: what its words and the views of its seats show at every moment.
use Rattle.std.specs.Prelude.{◌≡◌, ℕ, suc, ◌+◌, ◌<◌, ◌≤◌, ◌⊎◌, Bool, true, List, [], ◌∷◌, ◌++◌, length, map, replicate, slice_index, slice_index_or, slice_set, Contains}
use mathlib.Core.Option.{some}
use lib.ListN.{get_elem?}
use Rattle.atomic_table.specs.Table.{State}
use Rattle.kk_machine.specs.declared.log.TheConstants.{MAX_WIDTH}
use Rattle.kk_machine.specs.declared.log.Log.{Log}
use Rattle.kk_machine.specs.declared.call.Call.{Call}
use Rattle.kk_machine.specs.declared.call.Entry.{Entry}
use Rattle.kk_machine.specs.Spaces.{unseen, generation_of, IsInWidth}
use Rattle.kk_machine.specs.declared.log.TheConstants.{CLOSED}
use Rattle.kk_machine.specs.Steps.{word_at, IsLog, Sees, sight_after, exchanged, stored, changes, decided}
use Rattle.kk_machine.specs.History.{log_of, Legal, own, entries}
use Rattle.kk_machine.specs.Inserts.{StandsBefore}
use Rattle.kk_table.specs.declared.view.Shape.{Shape}
use Rattle.kk_table.specs.declared.view.Known.{Known}
use Rattle.kk_table.specs.declared.view.View.{View}
use Rattle.kk_table.specs.declared.view.View.TheVariants.{Founder, Pass, Spent}
use Rattle.kk_table.specs.Places.{place_of}
use Rattle.kk_table.specs.Worlds.{IsReached}

-- what a pass has seen of generation g
abbrev pub sight : Known → ℕ → Log
sight k g = slice_index_or k.seen g unseen

-- What a pass knows after a step for the call that found this word. The step is an exchange of 0 for the call's word
-- where `changing`, and else a load.
abbrev pub known_after : Bool → Call → Known → ℕ → Known
known_after changing call k found =
    let g = generation_of call in
    let s = sight k g in
    record {
      number = k.number;
      note = k.note;
      calls = k.calls ++ entries k.number call (decided changing s found call);
      seen = slice_set k.seen g (sight_after s (exchanged found (stored changing call)));
      accesses = k.accesses + 1;
    }

-- A step for the call is allowed to one who has seen s: the row is below 2^width, and an exchange would change the log.
abbrev pub IsAllowed : ℕ → Bool → Call → Log → Type 0
IsAllowed width changing call s = IsInWidth width call × (changing ≡ true → changes s call ≡ true)

-- A step tells its pass what it found. What is seen is then still independent rows below 2^width, and who knew the log
-- closed found the mark.
abbrev pub Tried : ℕ → Bool → Call → View → ℕ → View → Type 0
Tried width changing call (Pass k) found after =
    (after ≡ Pass (known_after changing call k found)) × IsLog width (sight (known_after changing call k found) (generation_of call))
    × ((sight k (generation_of call)).closed ≡ true → found ≡ CLOSED)
Tried width changing call (Founder generations given records) found after = ⊥
Tried width changing call Spent found after = ⊥

-- the founder's view of a new table
abbrev pub founder_first : Shape → View
founder_first shape = Founder shape.generations 0 []

-- the numbers of the passes of these records
abbrev pub numbers_of : List Known → List ℕ
numbers_of records = map (λ r. r.number) records

-- a pass that is given when this many were given before, and these were taken back
abbrev pub newcomer : ℕ → ℕ → List Known → Known
newcomer generations given records =
    record { number = given + 1; note = numbers_of records; calls = []; seen = replicate generations unseen; accesses = 0 }

-- What the rule says of a pass, out or taken back: its calls are those that the history has of its number, it has seen
-- the beginning of each log, and what its note names was taken back, and has made all its calls before it.
pub record FitsKnown (shape : Shape) (h : List Entry) (views : List View) (n : ℕ) (k : Known) : Type 0 where
  pub numbered : k.number ≡ n
  pub calls : own n h ≡ k.calls
  pub sights : length k.seen ≡ shape.generations
  pub seen : (g : ℕ) → g < shape.generations → Sees (log_of g h) (sight k g)
  pub noted : (m : ℕ) → Contains k.note m → (get_elem? views m ≡ some Spent) × StandsBefore m n h

-- the view that stands at place n above 0, where the founder has these records
abbrev pub FitsView : Shape → List Entry → List View → List Known → ℕ → View → Type 0
FitsView shape h views records n (Founder generations given records') = ⊥
FitsView shape h views records n (Pass k) = FitsKnown shape h views n k
FitsView shape h views records n Spent = Contains (numbers_of records) n

-- 1 for the view of a pass that was taken back, and else 0
abbrev pub spent_as_one : View → ℕ
spent_as_one (Founder generations given records) = 0
spent_as_one (Pass k) = 0
spent_as_one Spent = 1

-- how many of these views are of passes that were taken back
abbrev pub count_spent : List View → ℕ
count_spent [] = 0
count_spent (v ∷ vs) = spent_as_one v + count_spent vs

-- There is a legal history, whose logs the words show. The founder's view stands first, and then one for each pass that
-- was given, in the order of their numbers. A pass that is out, and each record, fits the history; a number that was
-- never given has no call in it.
pub record IsKept (shape : Shape) (h : List Entry) (given : ℕ) (records : List Known) (words : List ℕ) (views : List View) : Type 0 where
  pub fits : shape.width ≤ MAX_WIDTH
  pub legal : Legal h
  pub logs : (g : ℕ) → g < shape.generations → IsLog shape.width (log_of g h)
  pub size : length words ≡ place_of shape.width shape.generations 0
  pub first : slice_index words 0 ≡ 0
  pub placed : (g p : ℕ) → g < shape.generations → p ≤ shape.width → slice_index words (place_of shape.width g p) ≡ word_at (log_of g h) p
  pub founder : get_elem? views 0 ≡ some (Founder shape.generations given records)
  pub counted : length views ≡ given + 1
  pub spent : count_spent views ≡ length records
  pub passes : (n : ℕ) (v : View) → get_elem? views (suc n) ≡ some v → FitsView shape h views records (suc n) v
  pub recorded : (r : Known) → Contains records r → (get_elem? views r.number ≡ some Spent) × FitsKnown shape h views r.number r
  pub strangers : (n : ℕ) → (n ≡ 0) ⊎ (given < n) → own n h ≡ []

-- words and views are kept by the rule (`IsKept`), for some legal history, and moves that decide it lead to them
abbrev pub Holds : {S : Type 0} → Shape → State S View → Type 0
Holds shape s = (h : List Entry) × (given : ℕ) × (records : List Known) × IsKept shape h given records s.words s.views × IsReached shape h s.words s.views

-- the founder's view after it gave a pass
abbrev pub founder_after : View → View
founder_after (Founder generations given records) = Founder generations (given + 1) records
founder_after (Pass k) = Pass k
founder_after Spent = Spent

-- the view of the pass that the founder gives
abbrev pub given_by : View → View
given_by (Founder generations given records) = Pass (newcomer generations given records)
given_by (Pass k) = Spent
given_by Spent = Spent

-- the founder's view after it took back the pass of view w
abbrev pub founder_with : View → View → View
founder_with (Founder generations given records) (Pass k) = Founder generations given (records ++ k ∷ [])
founder_with (Founder generations given records) (Founder n g r) = Founder generations given records
founder_with (Founder generations given records) Spent = Founder generations given records
founder_with (Pass k) w = Pass k
founder_with Spent w = Spent

-- at most as many passes were taken back as were given
abbrev pub IsCounted : View → Type 0
IsCounted (Founder generations given records) = length records ≤ given
IsCounted (Pass k) = Unit {0}
IsCounted Spent = Unit {0}
