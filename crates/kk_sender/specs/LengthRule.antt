-- A file is read to one byte beyond its length: a source that ends sooner, or gives that byte, isn't the file.
use Rattle.std.specs.Prelude.{◌≡◌, ℕ, ◌+◌, ◌≤◌, ◌==◌, nat_lt, if◌then◌else◌, Bool, List, [], ◌∷◌, length, take, Option, Some, None}
use Rattle.kk_outside.specs.Change.{Change}
use Rattle.kk_outside.specs.Source.{Read, AtEnd, Failed, SourceTold, Took, bytes_read, left_after}

-- What is told of a source that gave `got` bytes where the file has `len`: nothing where that is its length, else how many
-- they are, and whether that is more.
abbrev pub wrong_length : ℕ → ℕ → Option (ℕ × Bool)
wrong_length len got = if got == len then None else Some (got, nat_lt len got)

-- After the reads that gave so many bytes there was none where these are one more than the file has, and else one that
-- found the end.
abbrev pub IsLastRead : ℕ → ℕ → List Read → Type 0
IsLastRead len got [] = got ≡ len + 1
IsLastRead len got (AtEnd ∷ []) = got ≤ len
IsLastRead len got other = ⊥

-- A file of `len` bytes was looked for: the source was read to its end, or to one byte more. Each read except one at the
-- end gave some.
pub record ReadsToLength (len : ℕ) (source : Change SourceTold) : Type 0 where
  pub last : List Read
  pub took : Took (bytes_read source) last source
  pub ended : IsLastRead len (length (bytes_read source)) last

-- A read failed, the last of all, before one byte more than the file has was read.
pub record FailsWithinLength (len : ℕ) (source : Change SourceTold) : Type 0 where
  pub took : Took (bytes_read source) (Failed ∷ []) source
  pub before : length (bytes_read source) ≤ len

-- Of a source with these bytes left, one more than the file has were taken, or all where there are fewer.
pub record LeavesAfterLength (len : ℕ) (bytes : List ℕ) (source : Change SourceTold) : Type 0 where
  pub taken : bytes_read source ≡ take (len + 1) bytes
  pub left : source.new.left ≡ left_after (len + 1) source.old.left
