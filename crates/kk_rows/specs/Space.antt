-- A row space as clauses see it.
use Rattle.std.specs.Prelude.{◌≡◌, ℕ, ◌^◌, ◌<◌, ◌≤◌, List, All, length}
use Rattle.kk_rows.specs.declared.row_space.TheConstants.{MAX_WIDTH}
use Rattle.kk_rows.specs.Echelon.{IsReduced, HasLeads}

-- the width of the rows, and the rows of the span's reduced row echelon form, from the highest leading bit down
pub record Space : Type 0 where
  pub width : ℕ
  pub rows : List ℕ

-- what every row space keeps
pub record IsRowSpace (width rank leads : ℕ) (rows : List ℕ) : Type 0 where
  pub some_width : 0 < width
  pub width_fits : width ≤ MAX_WIDTH
  pub rank_fits : rank ≤ width
  pub counted : length rows ≡ rank
  pub below : All (λ row. row < 2 ^ width) rows
  pub reduced : IsReduced rows
  pub led : HasLeads leads rows
