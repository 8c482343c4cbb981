-- What a source tells, and what a read, and reads until a buffer is full, do to that.
use Rattle.std.specs.Prelude.{◌≡◌, ℕ, ◌==◌, if◌then◌else◌, ◌<◌, ◌≤◌, min, List, [], ◌∷◌, ◌++◌, length, take, drop, All, Option, Result, Ok, Err, IfSome, IfOk, OnErr}
use Rattle.std.specs.Option.{option_map}
use Rattle.std.specs.Io.KnownBytes.{prepend_known, IsAtEnd}
use Rattle.kk_outside.specs.Change.{Change}

-- What one read gave: bytes, which are none where it had no room for one; nothing, since the source was at its end;
-- or nothing, since the source failed. After an end a source may have bytes again, as a terminal has.
pub data Read : Type 0 where
  Gave : (bytes : List ℕ) → Read
  AtEnd : Read
  Failed : Read

-- the bytes that are left, where the source tells them, what each read so far gave, and how often it failed
pub record SourceTold : Type 0 where
  pub left : Option (List ℕ)
  pub reads : List Read
  pub faults : ℕ

-- its count of faults rose
abbrev pub SourceFailed : Change SourceTold → Type 0
SourceFailed source = source.old.faults < source.new.faults

-- what a read into this buffer gave
abbrev pub read_of : {E : Type 0} → Result ℕ E → List ℕ → Read
read_of (Ok n) buf = if n == 0 then (if length buf == 0 then Gave [] else AtEnd) else Gave (take n buf)
read_of (Err e) buf = Failed

-- one read: at `Ok(n)` the first n bytes of the buffer were those left before, and the remainder is left
pub record ReadsFrom {E : Type 0} (source : Change SourceTold) (result : Result ℕ E) (buf : List ℕ) : Type 0 where
  pub bounded : IfOk result (λ n. n ≤ length buf)
  pub given : IfOk result (λ n. source.old.left ≡ prepend_known (take n buf) source.new.left)
  pub at_end : IfOk result (λ n. n ≡ 0 → 0 < length buf → IsAtEnd source.new.left)
  pub kept : OnErr result (source.new.left ≡ source.old.left)
  pub logged : source.new.reads ≡ source.old.reads ++ read_of result buf ∷ []

-- all bytes that reads gave
abbrev pub bytes_given : List Read → List ℕ
bytes_given [] = []
bytes_given (Gave bytes ∷ reads) = bytes ++ bytes_given reads
bytes_given (AtEnd ∷ reads) = bytes_given reads
bytes_given (Failed ∷ reads) = bytes_given reads

-- the bytes that the reads of a call gave
abbrev pub bytes_read : Change SourceTold → List ℕ
bytes_read source = bytes_given (drop (length source.old.reads) source.new.reads)

-- the read gave at least one byte
abbrev pub GaveSome : Read → Type 0
GaveSome (Gave bytes) = 0 < length bytes
GaveSome AtEnd = ⊥
GaveSome Failed = ⊥

-- These bytes were taken of the source, by reads that each gave at least one; after them came the reads `last`.
pub record Took (bytes : List ℕ) (last : List Read) (source : Change SourceTold) : Type 0 where
  pub given : List Read
  pub some : All GaveSome given
  pub are : bytes_given given ≡ bytes
  pub logged : source.new.reads ≡ source.old.reads ++ given ++ last
  pub left : source.old.left ≡ prepend_known bytes source.new.left

-- the bytes left after the first n
abbrev pub left_after : ℕ → Option (List ℕ) → Option (List ℕ)
left_after n left = option_map (λ xs. drop n xs) left

-- Reads until the buffer is full or the source at its end. At `Ok(n)` the first n bytes of the buffer were taken, by
-- reads of which only the last found the end, and that one only where the buffer isn't full.
pub record FillsFrom {E : Type 0} (source : Change SourceTold) (result : Result ℕ E) (buf : List ℕ) : Type 0 where
  pub bounded : IfOk result (λ n. n ≤ length buf)
  pub took : IfOk result (λ n. Took (take n buf) (if n == length buf then [] else AtEnd ∷ []) source)
  pub lost : OnErr result ((bytes : List ℕ) × (length bytes < length buf) × Took bytes (Failed ∷ []) source)
  -- the same where the source tells the bytes that are left
  pub count : IfOk result (λ n. IfSome source.old.left (λ xs. n ≡ min (length buf) (length xs)))
  pub given : IfOk result (λ n. IfSome source.old.left (λ xs. take n buf ≡ take (length buf) xs))
  pub after : IfOk result (λ n. source.new.left ≡ left_after (length buf) source.old.left)
