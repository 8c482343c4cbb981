-- Linearised polynomials in two variables, Q(x, y) = qx(x) + qy(y), each by the coefficients of its two parts.
use Rattle.std.specs.Prelude.{◌≡◌, ℕ, ◌+◌, ◌-◌, List, Option, Some, None, max, bit_xor, All}
use Rattle.kk_field.specs.Field.{Modulus}
use Rattle.kk_linpoly.specs.LinPoly.{IsOver, value, trimmed, degree}

-- the value of qx at x plus that of qy at y: that of the polynomial at the point (x, y)
abbrev pub value_at : Modulus → List ℕ → List ℕ → ℕ → ℕ → ℕ
value_at f qx qy x y = bit_xor (value f qx x) (value f qy y)

-- 0 at each of the points
abbrev pub IsZeroAt : Modulus → List ℕ → List ℕ → List (ℕ × ℕ) → Type 0
IsZeroAt f qx qy points = All (λ p. value_at f qx qy p.0 p.1 ≡ 0) points

-- coefficients below 2^m, without zeros at the end
pub record IsPart (m : ℕ) (cs : List ℕ) : Type 0 where
  pub over : IsOver m cs
  pub no_zero_at_end : trimmed cs ≡ cs

-- both parts are of the field
pub record IsOfField (f : Modulus) (qx qy : List ℕ) : Type 0 where
  pub x : IsPart f.degree qx
  pub y : IsPart f.degree qy

-- the degree and n more, or 0 for the zero polynomial
unfoldable pub part_weight : ℕ → Option ℕ → ℕ
part_weight n None = 0
part_weight n (Some e) = e + n

-- the greater of the degree of qx and the degree of qy plus k - 1, over the parts that aren't zero
unfoldable pub weight : ℕ → List ℕ → List ℕ → ℕ
weight k qx qy = max (part_weight 0 (degree qx)) (part_weight (k - 1) (degree qy))
