-- Numbers with different highest bits, as a basis of their sums: used only inside the irreducibility test.
use Rattle.std.specs.Prelude.{◌≡◌, ◌≢◌, ℕ, ◌<◌, List, length, slice_index, slice_set, bit_xor}
use Rattle.kk_field.specs.Polynomial.{HasDegree}

-- entry t is 0 or has the degree t
pub record IsEchelon (pivots : List ℕ) : Type 0 where
  pub degrees : (t : ℕ) → slice_index pivots t ≢ 0 → HasDegree (slice_index pivots t) t

-- a sum of entries
pub data InSpan (pivots : List ℕ) : ℕ → Type 0 where
  none : InSpan pivots 0
  more : {x : ℕ} (t : ℕ) → InSpan pivots x → InSpan pivots (bit_xor x (slice_index pivots t))

-- entry `place` was 0, and is now v up to a sum of the old entries
pub record Inserts (old new : List ℕ) (v : ℕ) : Type 0 where
  pub place : ℕ
  pub left : ℕ
  pub within : place < length old
  pub free : slice_index old place ≡ 0
  pub degree : HasDegree left place
  pub set : new ≡ slice_set old place left
  pub in_span : InSpan old (bit_xor v left)
