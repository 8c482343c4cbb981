-- Data frames by their generations. A data frame is the pair of its generation and its row.
use Rattle.std.specs.Prelude.{ℕ, ◌==◌, if◌then◌else◌, List, [], ◌∷◌}

-- the rows of generation g, in order
unfoldable pub rows_of : ℕ → List (ℕ × ℕ) → List ℕ
rows_of g [] = []
rows_of g (frame ∷ frames) = if frame.0 == g then frame.1 ∷ rows_of g frames else rows_of g frames
