-- Pieces that are packed into one list, each next to the one before, known by where each ends.
use Rattle.std.specs.Prelude.{◌≡◌, ℕ, zero, suc, ◌<◌, List, [], ◌∷◌, slice_index, slice_range}

-- the pieces of these bytes from `start` on
abbrev pub pieces : ℕ → List ℕ → List ℕ → List (List ℕ)
pieces start [] bytes = []
pieces start (end ∷ ends) bytes = slice_range bytes start end ∷ pieces end ends bytes

-- no piece is empty, and the last one ends at `len`
abbrev pub AreEnds : ℕ → List ℕ → ℕ → Type 0
AreEnds start [] len = start ≡ len
AreEnds start (end ∷ ends) len = (start < end) × AreEnds end ends len

-- where the piece after i others starts
abbrev pub start_of : ℕ → List ℕ → ℕ → ℕ
start_of start ends zero = start
start_of start ends (suc i) = slice_index ends i
