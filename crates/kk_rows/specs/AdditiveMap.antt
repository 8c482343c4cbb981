-- Additive maps of rows: the linear maps over GF(2).
use Rattle.std.specs.Prelude.{◌≡◌, ℕ, ◌^◌, ◌≤◌, IsTrue, List, map, bit_xor}
use Rattle.std.specs.List.{range_with_len}
use Rattle.kk_rows.specs.Span.{in_span, dimension}

-- the image of a sum is the sum of the images
abbrev pub IsAdditive : (ℕ → ℕ) → Type 0
IsAdditive g = (a b : ℕ) → g (bit_xor a b) ≡ bit_xor (g a) (g b)

-- the map g takes the span of the rows onto the span of their images, whose dimension isn't larger
pub record MapsSpan (g : ℕ → ℕ) (rows : List ℕ) : Type 0 where
  pub image_of_member : (v : ℕ) → IsTrue (in_span rows v) → IsTrue (in_span (map g rows) (g v))
  pub member_of_image : (w : ℕ) → IsTrue (in_span (map g rows) w) → (v : ℕ) × IsTrue (in_span rows v) × (g v ≡ w)
  pub dimension_falls : dimension (map g rows) ≤ dimension rows

-- the rows with one coordinate 1, at the places below n: 2^0, 2^1, .. 2^(n-1)
abbrev pub unit_rows : ℕ → List ℕ
unit_rows n = map (λ i. 2 ^ i) (range_with_len 0 n)
