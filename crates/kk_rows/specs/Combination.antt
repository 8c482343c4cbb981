-- Combinations of rows by the bits of a word.
use Rattle.std.specs.Prelude.{◌≡◌, ℕ, ◌*◌, ◌/◌, ◌%◌, IsTrue, List, [], ◌∷◌, bit_xor, refl}
use Rattle.kk_rows.specs.Span.{in_span}

-- the sum of the rows at whose places the word has a 1; its bits from the number of rows on don't matter
unfoldable pub combination : List ℕ → ℕ → ℕ
combination [] word = 0
combination (row ∷ rows) word = bit_xor (word % 2 * row) (combination rows (word / 2))

-- a combination is a member of the span
abbrev pub CombinationsAreMembers : Type 0
CombinationsAreMembers = (rows : List ℕ) (word : ℕ) → IsTrue (in_span rows (combination rows word))

-- ---- worked

-- the first two of three rows
pub first_two : combination (13 ∷ 17 ∷ 34 ∷ []) 3 ≡ 28
unfolding combination
first_two = refl

-- all three, by a word that has further bits
pub all_three : combination (8 ∷ 16 ∷ 32 ∷ []) 15 ≡ 56
unfolding combination
all_three = refl

pub none : combination (8 ∷ 16 ∷ 32 ∷ []) 0 ≡ 0
unfolding combination
none = refl
