-- What an operator channel makes of a codeword, by the words of a generator: it erases dimensions and injects others.
use Rattle.std.specs.Prelude.{◌≡◌, ℕ, ◌+◌, ◌*◌, ◌%◌, ◌^◌, List, ◌++◌, length, map, take, drop, slice_index, bit_xor}
use Rattle.std.specs.List.{range_with_len}
use Rattle.kk_rows.specs.Combination.{combination}
use Rattle.kk_code.specs.Codeword.{Parameters, IsMessage, codeword}

-- the rows are the codeword of a message
pub record IsCodeword (p : Parameters) (rows : List ℕ) : Type 0 where
  pub message : List ℕ
  pub is_message : IsMessage p message
  pub is_codeword : rows ≡ codeword p message

-- row number i, with a combination of the rows before it by word number i
abbrev pub mixed_row : (ℕ → ℕ) → List ℕ → ℕ → ℕ
mixed_row word rows i = bit_xor (slice_index rows i) (combination (take i rows) (word i))

-- all rows, mixed
abbrev pub mixed_rows : (ℕ → ℕ) → List ℕ → List ℕ
mixed_rows word rows = map (mixed_row word rows) (range_with_len 0 (length rows))

-- The row 2^j with lower bits by the one word, and a combination of the rows of the codeword by the other. The first part
-- has x-part 0, so the row isn't of the codeword.
abbrev pub foreign_row : List ℕ → ℕ → ℕ → ℕ → ℕ
foreign_row rows j lower word = bit_xor (bit_xor (2 ^ j) (lower % 2 ^ j)) (combination rows word)

-- row number j that is injected, by the two words after those of the mixed rows and of the rows injected before it
abbrev pub injected_row : (ℕ → ℕ) → List ℕ → ℕ → ℕ
injected_row word rows j = foreign_row rows j (word (length rows + 2 * j)) (word (length rows + 2 * j + 1))

-- the first n rows that are injected
abbrev pub injected_rows : (ℕ → ℕ) → List ℕ → ℕ → List ℕ
injected_rows word rows n = map (injected_row word rows) (range_with_len 0 n)

-- what comes out of the channel: the mixed rows from number `erase` on, and then `inject` rows that were never sent
abbrev pub channel_rows : (ℕ → ℕ) → List ℕ → ℕ → ℕ → List ℕ
channel_rows word rows erase inject = drop erase (mixed_rows word rows) ++ injected_rows word rows inject

-- how many words the channel draws for l rows
abbrev pub words_drawn : ℕ → ℕ → ℕ
words_drawn l inject = l + 2 * inject
