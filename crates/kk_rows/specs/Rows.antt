-- Rows as numbers.
use Rattle.std.specs.Prelude.{ℕ, List, map}
use Rattle.kk_rows.specs.declared.rows.Row.{Row}

-- the numbers of the rows, in order
abbrev pub numbers : List Row → List ℕ
numbers rows = map (λ row. row.0) rows
