-- A founder as clauses see it.
use Rattle.std.specs.Prelude.{◌≡◌, ℕ, ◌+◌, ◌-◌, ◌^◌, ◌<◌, ◌≤◌, List, [], ◌∷◌, ◌++◌, length, replicate, All}
use Rattle.atomic_table.specs.Table.{Me}
use Rattle.kk_machine.specs.Spaces.{unseen}
use Rattle.kk_machine.specs.Sights.{Seen, logs_of, HaveWidth}
use Rattle.kk_table.specs.declared.view.Shape.{Shape}
use Rattle.kk_table.specs.declared.view.Known.{Known}
use Rattle.kk_table.specs.declared.view.View.{View}
use Rattle.kk_table.specs.declared.view.View.TheVariants.{Founder, Pass, Spent}
use Rattle.kk_table.specs.Table.{TableView}

-- Whose table, how many passes it may give and has given, what those knew that were taken back, in the order of taking
-- back, and for how many passes storage is reserved.
pub record FounderView : Type 0 where
  pub table : TableView
  pub passes : ℕ
  pub given : ℕ
  pub records : List Known
  pub spare : ℕ

-- the founder of a new table, which has given no pass
abbrev pub new_founder : TableView → ℕ → FounderView
new_founder table passes = record { table = table; passes = passes; given = 0; records = []; spare = 0 }

-- the founder after it reserved the storage of a pass
abbrev pub founder_reserved : FounderView → FounderView
founder_reserved f = record { table = f.table; passes = f.passes; given = f.given; records = f.records; spare = f.spare + 1 }

-- the founder after it gave a pass
abbrev pub founder_gave : FounderView → FounderView
founder_gave f = record { table = f.table; passes = f.passes; given = f.given + 1; records = f.records; spare = f.spare - 1 }

-- the founder after it took back a pass that knew this
abbrev pub founder_took : FounderView → Known → FounderView
founder_took f k = record { table = f.table; passes = f.passes; given = f.given; records = f.records ++ k ∷ []; spare = f.spare }

-- what those knew that were taken back, where the view is the founder's
abbrev pub records_in : View → List Known
records_in (Founder generations given records) = records
records_in (Pass k) = []
records_in Spent = []

-- the seat is that of a founder
abbrev pub IsFounding : Me (Unit {0}) View → Type 0
IsFounding me = (generations given : ℕ) × (records : List Known) × (me ≡ (Founder generations given records, []))

-- the same, and it may give one more pass
abbrev pub MayGive : Me (Unit {0}) View → Type 0
MayGive me = (generations given : ℕ) × (records : List Known) × (given + 1 < 2 ^ 32) × (me ≡ (Founder generations given records, []))

-- storage for n generations in which nothing is seen
pub record IsFresh (width n : ℕ) (seen : List Seen) : Type 0 where
  pub all : length seen ≡ n
  pub nothing : logs_of seen ≡ replicate n unseen
  pub widths : HaveWidth width seen

-- the storage of a pass that has seen nothing
abbrev pub IsSpare : Shape → List Seen → Type 0
IsSpare shape seen = IsFresh shape.width shape.generations seen

-- what every founder keeps
pub record IsFounder (shape : Shape) (me : Me (Unit {0}) View) (passes given taken : ℕ) (spare : List (List Seen)) : Type 0 where
  pub knows : me ≡ (Founder shape.generations given (records_in me.0), [])
  pub counted : length (records_in me.0) ≡ taken
  pub within : taken ≤ given
  pub few : given ≤ passes
  pub spares : All (IsSpare shape) spare
