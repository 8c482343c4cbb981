-- What the interpolation of a space has to do with the message.
use Rattle.std.specs.Prelude.{◌≡◌, ◌≢◌, ℕ, ◌/◌, ◌%◌, ◌^◌, ◌<◌, List, [], IsTrue}
use Rattle.kk_code.specs.Codeword.{Parameters}
use Rattle.kk_field.specs.Field.{Modulus}
use Rattle.kk_rows.specs.Span.{in_span}
use Rattle.kk_linpoly.specs.LinPoly.{SamePolynomial, value, composition}
use Rattle.kk_interp.specs.declared.bi_poly.BiPoly.{BiPoly}
use Rattle.kk_interp.specs.BiPoly.{value_at}

-- the x-part and the y-part of a row, as a point
abbrev pub point_of : Modulus → ℕ → ℕ × ℕ
point_of f r = (r / 2 ^ f.degree, r % 2 ^ f.degree)

-- 0 at both parts of each row of the span
pub record IsZeroOn (f : Modulus) (rows : List ℕ) (q : BiPoly) : Type 0 where
  pub zeros : (r : ℕ) → IsTrue (in_span rows r) → value_at f q.qx q.qy (r / 2 ^ f.degree) (r % 2 ^ f.degree) ≡ 0

-- qx is the composition of qy, which isn't zero, and the polynomial of u
pub record Solves (f : Modulus) (q : BiPoly) (u : List ℕ) : Type 0 where
  pub exact : SamePolynomial q.qx (composition f q.qy u)
  pub some : q.qy ≢ []

-- the row is (x, y) with x below 2^l and y the value at x
pub record IsOnGraph (p : Parameters) (u : List ℕ) (r : ℕ) : Type 0 where
  pub x : r / 2 ^ p.field.degree < 2 ^ p.l
  pub y : r % 2 ^ p.field.degree ≡ value p.field u (r / 2 ^ p.field.degree)
