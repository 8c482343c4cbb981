-- Left and right division with remainder of linearised polynomials over GF(2^m), by the lists of their coefficients.
use Rattle.std.specs.Prelude.{◌≡◌, ℕ, ◌<◌, List, Some}
use Rattle.kk_field.specs.Field.{Modulus}
use Rattle.kk_linpoly.specs.LinPoly.{SamePolynomial, degree, sum_of, composition}

-- r is zero, or its degree is below that of b
pub record IsBelow (r b : List ℕ) : Type 0 where
  pub smaller : (d : ℕ) → degree r ≡ Some d → (e : ℕ) × (degree b ≡ Some e) × (d < e)

-- a is the composition b∘q and r
pub record IsLeftQuotient (f : Modulus) (a b q r : List ℕ) : Type 0 where
  pub sum : SamePolynomial a (sum_of (composition f b q) r)
  pub remainder : IsBelow r b

-- a is the composition q∘b and r
pub record IsRightQuotient (f : Modulus) (a b q r : List ℕ) : Type 0 where
  pub sum : SamePolynomial a (sum_of (composition f q b) r)
  pub remainder : IsBelow r b
