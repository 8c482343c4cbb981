-- The map that 8 tables of 256 words make.
use Rattle.std.specs.Prelude.{ℕ, List}
use Rattle.kk_tables.specs.Tables.{looked_up}

-- the sum of the words of the 8 bytes of x
abbrev pub image : List ℕ → ℕ → ℕ
image words x = looked_up words 8 x
