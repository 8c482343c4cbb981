-- The two polynomials of an interpolation.
use Rattle.std.specs.Prelude.{ℕ, ◌≢◌, ◌+◌, ◌<◌, ◌≤◌, length, slice_index, bit_xor, nat_le, if◌then◌else◌}
use Rattle.kk_field.specs.Field.{Modulus, field_product}
use Rattle.kk_interp.specs.declared.bi_poly.BiPoly.{BiPoly}
use Rattle.kk_interp.specs.BiPoly.{IsOfField, weight}

-- the polynomial of lesser weight, and the first where both have the same
unfoldable pub lesser : ℕ → BiPoly → BiPoly → BiPoly
lesser k q g = if nat_le (weight k q.qx q.qy) (weight k g.qx g.qy) then q else g

-- The first polynomial has its greatest weight in x alone, the second in y, and both weights together are at most
-- k - 1 and the number of points. Lengths are one more than degrees.
pub record IsPair (f : Modulus) (k points : ℕ) (q g : BiPoly) : Type 0 where
  pub x_of_field : IsOfField f q.qx q.qy
  pub y_of_field : IsOfField f g.qx g.qy
  pub x_leads : 0 < length q.qx
  pub x_leads_over_y : 0 < length q.qy → length q.qy + k ≤ length q.qx
  pub y_leads : 0 < length g.qy
  pub y_leads_over_x : length g.qx < length g.qy + k
  pub weights : length q.qx + length g.qy ≤ points + 2

-- the determinant of the coefficients of x and of y
abbrev pub cross : Modulus → BiPoly → BiPoly → ℕ
cross f q g = bit_xor (field_product f (slice_index q.qx 0) (slice_index g.qy 0)) (field_product f (slice_index q.qy 0) (slice_index g.qx 0))

-- the terms of x and y in the one are no multiple of those in the other
pub record AreApart (f : Modulus) (q g : BiPoly) : Type 0 where
  pub apart : cross f q g ≢ 0
