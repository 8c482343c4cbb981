-- Where the words of a table stand.
use Rattle.std.specs.Prelude.{ℕ, ◌+◌, ◌*◌}

-- Word 0 is 0 for good. The words of each generation follow, one more than the width.
abbrev pub place_of : ℕ → ℕ → ℕ → ℕ
place_of width g place = 1 + g * (width + 1) + place
