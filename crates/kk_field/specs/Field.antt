-- The field GF(2^m), or the ring of residues where the modulus is no irreducible polynomial.
use Rattle.std.specs.Prelude.{ℕ, zero, suc, ◌+◌, ◌^◌}
use Rattle.kk_field.specs.Polynomial.{product, remainder}

-- The modulus X^degree + low. Its residues are the numbers below 2^degree.
pub record Modulus : Type 0 where
  pub degree : ℕ
  pub low : ℕ

-- the polynomial of the modulus, as a number
abbrev pub polynomial : Modulus → ℕ
polynomial f = 2 ^ f.degree + f.low

-- what the modulus leaves of the polynomial a
abbrev pub residue : Modulus → ℕ → ℕ
residue f a = remainder f.degree (polynomial f) a

-- the product of two residues
unfoldable pub field_product : Modulus → ℕ → ℕ → ℕ
field_product f a b = residue f (product a b)

-- a^(2^i): a squared i times
unfoldable pub frobenius : Modulus → ℕ → ℕ → ℕ
frobenius f zero a = a
frobenius f (suc i) a = field_product f (frobenius f i a) (frobenius f i a)

-- a^n
unfoldable pub power : Modulus → ℕ → ℕ → ℕ
power f a zero = 1
power f a (suc n) = field_product f (power f a n) a
