-- The laws of residues, which the functions of `laws` prove. f is the modulus X^m + low, where m is f.degree.
use Rattle.std.specs.Prelude.{◌≡◌, ℕ, ◌+◌, ◌-◌, ◌^◌, ◌<◌, ◌≤◌, ◌⊎◌, ◌↔◌, IsTrue, bit_xor}
use Rattle.kk_field.specs.Polynomial.{IsRemainder, remainder, IsIrreducible, irreducible}
use Rattle.kk_field.specs.Field.{Modulus, polynomial, residue, field_product, frobenius, power}

-- low has no term from X^m on
pub record IsModulus (f : Modulus) : Type 0 where
  pub at_least_one : 1 ≤ f.degree
  pub low_below : f.low < 2 ^ f.degree

-- a has no term from X^m on
abbrev pub IsResidue : Modulus → ℕ → Type 0
IsResidue f a = a < 2 ^ f.degree

-- a division leaves one remainder, and `remainder` is it
abbrev pub RemainderIsUnique : Type 0
RemainderIsUnique =
    (m low a r : ℕ) → 1 ≤ m → low < 2 ^ m → IsRemainder m (2 ^ m + low) a r ↔ (r ≡ remainder m (2 ^ m + low) a)

-- the residues are a commutative ring under exclusive or and product, with the one 1
pub record IsRing (f : Modulus) : Type 0 where
  pub closed : (a b : ℕ) → IsResidue f (field_product f a b)
  pub associative : (a b c : ℕ) → field_product f (field_product f a b) c ≡ field_product f a (field_product f b c)
  pub commutative : (a b : ℕ) → field_product f a b ≡ field_product f b a
  pub distributive : (a b c : ℕ) → field_product f a (bit_xor b c) ≡ bit_xor (field_product f a b) (field_product f a c)
  pub one : (a : ℕ) → IsResidue f a → field_product f 1 a ≡ a

-- modulo each modulus the residues are a ring
abbrev pub ResiduesAreARing : Type 0
ResiduesAreARing = (f : Modulus) → IsModulus f → IsRing f

-- the Frobenius map applied i times to a sum gives the sum of what it gives for the summands
abbrev pub FrobeniusIsAdditive : Type 0
FrobeniusIsAdditive =
    (f : Modulus) → IsModulus f → (i a b : ℕ) → frobenius f i (bit_xor a b) ≡ bit_xor (frobenius f i a) (frobenius f i b)

-- the Frobenius map applied i times to a product gives the product of what it gives for the factors
abbrev pub FrobeniusIsMultiplicative : Type 0
FrobeniusIsMultiplicative =
    (f : Modulus) → IsModulus f → (i a b : ℕ)
    → frobenius f i (field_product f a b) ≡ field_product f (frobenius f i a) (frobenius f i b)

-- the Frobenius map applied i times to a gives a^(2^i)
abbrev pub FrobeniusIsAPower : Type 0
FrobeniusIsAPower = (f : Modulus) → IsModulus f → (i a : ℕ) → IsResidue f a → frobenius f i a ≡ power f a (2 ^ i)

-- ---- where the modulus is irreducible

-- a modulus with which the residues are a field
pub record IsFieldModulus (f : Modulus) : Type 0 where
  pub modulus : IsModulus f
  pub irreducible : IsIrreducible (polynomial f)

-- modulo an irreducible polynomial the product of two residues is 0 only where one of them is 0
abbrev pub NoZeroDivisors : Type 0
NoZeroDivisors =
    (f : Modulus) → IsFieldModulus f → (a b : ℕ) → IsResidue f a → IsResidue f b → field_product f a b ≡ 0
    → (a ≡ 0) ⊎ (b ≡ 0)

-- b is the inverse of a
pub record IsInverse (f : Modulus) (a b : ℕ) : Type 0 where
  pub residue : IsResidue f b
  pub product_is_one : field_product f a b ≡ 1

-- modulo an irreducible polynomial each residue except 0 has an inverse, and only one
abbrev pub OneInverse : Type 0
OneInverse =
    (f : Modulus) → IsFieldModulus f → (a : ℕ) → IsResidue f a → 0 < a
    → (b : ℕ) × IsInverse f a b × ((c : ℕ) → IsInverse f a c → c ≡ b)

-- modulo an irreducible polynomial two residues with the same image under the Frobenius map are the same
abbrev pub FrobeniusIsInjective : Type 0
FrobeniusIsInjective =
    (f : Modulus) → IsFieldModulus f → (i a b : ℕ) → IsResidue f a → IsResidue f b → frobenius f i a ≡ frobenius f i b
    → a ≡ b

-- modulo an irreducible polynomial a^(2^m) is a
abbrev pub FrobeniusOfDegree : Type 0
FrobeniusOfDegree = (f : Modulus) → IsFieldModulus f → (a : ℕ) → IsResidue f a → frobenius f f.degree a ≡ a

-- modulo an irreducible polynomial a^(2^m - 1) is 1 for each residue except 0
abbrev pub PowerOfOrder : Type 0
PowerOfOrder = (f : Modulus) → IsFieldModulus f → (a : ℕ) → IsResidue f a → 0 < a → power f a (2 ^ f.degree - 1) ≡ 1

-- ---- what tells an irreducible modulus

-- `irreducible` is true exactly where a polynomial is irreducible
abbrev pub IrreducibleIsDecided : Type 0
IrreducibleIsDecided = (p : ℕ) → IsTrue (irreducible p) ↔ IsIrreducible p

-- X^(2^m) is X
abbrev pub FrobeniusFixesX : Modulus → Type 0
FrobeniusFixesX f = frobenius f f.degree (residue f 2) ≡ residue f 2

-- only 0 and 1 are their own squares
abbrev pub OnlyTrivialIdempotents : Modulus → Type 0
OnlyTrivialIdempotents f = (a : ℕ) → IsResidue f a → field_product f a a ≡ a → a < 2

-- the polynomial of a modulus is irreducible exactly where X^(2^m) is X and only 0 and 1 are their own squares
abbrev pub IrreducibilityCriterion : Type 0
IrreducibilityCriterion =
    (f : Modulus) → IsModulus f → IsIrreducible (polynomial f) ↔ (FrobeniusFixesX f × OnlyTrivialIdempotents f)
