-- How a polynomial is stored.
use Rattle.std.specs.Prelude.{◌≡◌, ℕ, ◌≤◌, List, take, length}
use Rattle.kk_linpoly.specs.declared.lin_poly.TheConstants.{MAX_COEFFICIENTS}
use Rattle.kk_linpoly.specs.LinPoly.{trimmed}

-- the coefficients are 0 from place len on, and the one before it isn't
pub record IsStored (len : ℕ) (coefficients : List ℕ) : Type 0 where
  pub fits : len ≤ MAX_COEFFICIENTS
  pub whole : length coefficients ≡ MAX_COEFFICIENTS
  pub front : take len coefficients ≡ trimmed coefficients
