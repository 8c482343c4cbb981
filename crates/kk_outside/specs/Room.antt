-- Room for bytes, whose slice was lent.
use Rattle.std.specs.Prelude.{ℕ, List, ◌++◌, length, take, drop}

-- The bytes of a room over whose first these were written: as many as before.
abbrev pub written_over : List ℕ → List ℕ → List ℕ
written_over old bytes = take (length old) (bytes ++ drop (length bytes) old)
