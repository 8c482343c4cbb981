-- What an interpolation keeps.
use Rattle.std.specs.Prelude.{◌≡◌, ℕ, ◌+◌, ◌≤◌, List, length}
use Rattle.kk_field.specs.Field.{Modulus}
use Rattle.kk_field.specs.Laws.{IsFieldModulus}
use Rattle.kk_linpoly.specs.declared.lin_poly.TheConstants.{MAX_COEFFICIENTS}
use Rattle.kk_interp.specs.declared.bi_poly.BiPoly.{BiPoly}
use Rattle.kk_interp.specs.BiPoly.{IsZeroAt}
use Rattle.kk_interp.specs.Interpolation.{Interpolation}
use Rattle.kk_interp.specs.Pair.{IsPair, AreApart, lesser}

-- What is known after some points. The leading term of the first polynomial is in x, and that of the second in y.
pub record State : Type 0 where
  pub modulus : Modulus
  pub k : ℕ
  pub points : List (ℕ × ℕ)
  pub count : ℕ
  pub x_leading : BiPoly
  pub y_leading : BiPoly

-- what clauses see of the state: the lesser polynomial for both
abbrev pub seen : State → Interpolation
seen s = record { modulus = s.modulus; k = s.k; points = s.points; least = lesser s.k s.x_leading s.y_leading }

-- both polynomials are 0 at each point
pub record IsKept (s : State) : Type 0 where
  pub k_at_least : 1 ≤ s.k
  pub k_at_most : s.k ≤ 64
  pub room : s.count + s.k ≤ MAX_COEFFICIENTS
  pub counted : length s.points ≡ s.count
  pub field : IsFieldModulus s.modulus
  pub pair : IsPair s.modulus s.k s.count s.x_leading s.y_leading
  pub apart : AreApart s.modulus s.x_leading s.y_leading
  pub x_zero : IsZeroAt s.modulus s.x_leading.qx s.x_leading.qy s.points
  pub y_zero : IsZeroAt s.modulus s.y_leading.qx s.y_leading.qy s.points
