-- The laws of division, which the functions of `laws` prove.
use Rattle.std.specs.Prelude.{ℕ, List, IsSome}
use Rattle.kk_field.specs.Field.{Modulus}
use Rattle.kk_field.specs.Laws.{IsFieldModulus}
use Rattle.kk_linpoly.specs.LinPoly.{SamePolynomial, IsOver, degree}
use Rattle.kk_ore.specs.Division.{IsLeftQuotient, IsRightQuotient}

-- two polynomials of the field are the left quotient and remainder only if they are the same as any other such two
abbrev pub LeftQuotientIsUnique : Type 0
LeftQuotientIsUnique =
    (f : Modulus) → IsFieldModulus f → (a b q r q' r' : List ℕ) → IsOver f.degree b → IsSome (degree b)
    → IsOver f.degree q → IsOver f.degree q' → IsLeftQuotient f a b q r → IsLeftQuotient f a b q' r'
    → SamePolynomial q q' × SamePolynomial r r'

-- two polynomials of the field are the right quotient and remainder only if they are the same as any other such two
abbrev pub RightQuotientIsUnique : Type 0
RightQuotientIsUnique =
    (f : Modulus) → IsFieldModulus f → (a b q r q' r' : List ℕ) → IsOver f.degree b → IsSome (degree b)
    → IsOver f.degree q → IsOver f.degree q' → IsRightQuotient f a b q r → IsRightQuotient f a b q' r'
    → SamePolynomial q q' × SamePolynomial r r'
