-- An interpolation, as clauses see it.
use Rattle.std.specs.Prelude.{ℕ, List}
use Rattle.kk_field.specs.Field.{Modulus}
use Rattle.kk_interp.specs.declared.bi_poly.BiPoly.{BiPoly}

-- the points that were given, in order, and the polynomial that `least` answers
pub record Interpolation : Type 0 where
  pub modulus : Modulus
  pub k : ℕ
  pub points : List (ℕ × ℕ)
  pub least : BiPoly
