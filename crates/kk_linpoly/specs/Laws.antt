-- The laws of linearised polynomials, which the functions of `laws` prove. cs, ds and es are coefficients.
use Rattle.std.specs.Prelude.{◌≡◌, ◌≢◌, ℕ, ◌+◌, ◌<◌, ◌≤◌, ◌↔◌, List, [], ◌∷◌, Some, None, length, slice_index, bit_xor, All}
use Rattle.kk_field.specs.Field.{Modulus, field_product}
use Rattle.kk_field.specs.Laws.{IsModulus, IsFieldModulus, IsResidue}
use Rattle.kk_rows.specs.Span.{IsIndependent}
use Rattle.kk_linpoly.specs.LinPoly.{value, IsOver, SamePolynomial, IsMonic, trimmed, degree, sum_of, scaled, composition, squared_up}

-- two lists are the same polynomial exactly where they are equal without the zeros at their ends
abbrev pub OneTrimmedForm : Type 0
OneTrimmedForm = (cs ds : List ℕ) → SamePolynomial cs ds ↔ (trimmed cs ≡ trimmed ds)

-- coefficient e isn't 0, and all after it are
pub record Leads (cs : List ℕ) (e : ℕ) : Type 0 where
  pub leading : slice_index cs e ≢ 0
  pub past : (i : ℕ) → e < i → slice_index cs i ≡ 0

-- the degree by coefficients
abbrev pub DegreeIsTheLast : Type 0
DegreeIsTheLast = (cs : List ℕ) (e : ℕ) → (degree cs ≡ Some e) ↔ Leads cs e

-- the zero polynomial alone has no degree
abbrev pub NoDegreeIsZero : Type 0
NoDegreeIsZero = (cs : List ℕ) → (degree cs ≡ None) ↔ SamePolynomial cs []

-- the value at a point is linear in the polynomial, and the square of a polynomial has the square of its value
pub record ValueIsLinear (f : Modulus) : Type 0 where
  pub sum : (cs ds : List ℕ) (x : ℕ) → value f (sum_of cs ds) x ≡ bit_xor (value f cs x) (value f ds x)
  pub multiple : (a : ℕ) (cs : List ℕ) (x : ℕ) → value f (scaled f a cs) x ≡ field_product f a (value f cs x)
  pub square : (cs : List ℕ) (x : ℕ) → value f (squared_up f cs) x ≡ field_product f (value f cs x) (value f cs x)
  pub point : (cs : List ℕ) (x y : ℕ) → value f cs (bit_xor x y) ≡ bit_xor (value f cs x) (value f cs y)
  pub without_zeros : (cs : List ℕ) (x : ℕ) → value f (trimmed cs) x ≡ value f cs x

-- values are linear modulo every polynomial X^m + low
abbrev pub ValuesAreLinear : Type 0
ValuesAreLinear = (f : Modulus) → IsModulus f → ValueIsLinear f

-- the value of cs∘ds at x is the value of cs at the value of ds at x
abbrev pub ValueOfComposition : Type 0
ValueOfComposition =
    (f : Modulus) → IsModulus f → (cs ds : List ℕ) (x : ℕ) → value f (composition f cs ds) x ≡ value f cs (value f ds x)

-- under sum and composition the polynomials are a ring with the one X, up to zeros at the end
pub record IsCompositionRing (f : Modulus) : Type 0 where
  pub associative : (cs ds es : List ℕ)
      → SamePolynomial (composition f (composition f cs ds) es) (composition f cs (composition f ds es))
  pub sum_on_the_left : (cs cs' ds : List ℕ)
      → SamePolynomial (composition f (sum_of cs cs') ds) (sum_of (composition f cs ds) (composition f cs' ds))
  pub sum_on_the_right : (cs ds ds' : List ℕ)
      → SamePolynomial (composition f cs (sum_of ds ds')) (sum_of (composition f cs ds) (composition f cs ds'))
  pub one_on_the_left : (cs : List ℕ) → IsOver f.degree cs → SamePolynomial (composition f (1 ∷ []) cs) cs
  pub one_on_the_right : (cs : List ℕ) → IsOver f.degree cs → SamePolynomial (composition f cs (1 ∷ [])) cs
  pub square : (cs : List ℕ) → SamePolynomial (composition f (0 ∷ 1 ∷ []) cs) (squared_up f cs)

-- so they are modulo every polynomial X^m + low
abbrev pub CompositionIsARing : Type 0
CompositionIsARing = (f : Modulus) → IsModulus f → IsCompositionRing f

-- ---- over a field

-- the degree of a composition of two polynomials except 0 is the sum of their degrees
abbrev pub DegreeOfComposition : Type 0
DegreeOfComposition =
    (f : Modulus) → IsFieldModulus f → (cs ds : List ℕ) (j k : ℕ) → IsOver f.degree cs → IsOver f.degree ds
    → degree cs ≡ Some j → degree ds ≡ Some k → degree (composition f cs ds) ≡ Some (j + k)

-- the value is 0 at each point
abbrev pub VanishesAt : Modulus → List ℕ → List ℕ → Type 0
VanishesAt f cs points = All (λ p. value f cs p ≡ 0) points

-- a polynomial of degree e is 0 at e independent points at most
abbrev pub FewRoots : Type 0
FewRoots =
    (f : Modulus) → IsFieldModulus f → (cs points : List ℕ) (e : ℕ) → IsOver f.degree cs → degree cs ≡ Some e
    → All (IsResidue f) points → IsIndependent points → VanishesAt f cs points → length points ≤ e

-- one monic polynomial alone is 0 at each of s independent points and has the degree s
abbrev pub OneVanishing : Type 0
OneVanishing =
    (f : Modulus) → IsFieldModulus f → (cs ds points : List ℕ) → IsOver f.degree cs → IsOver f.degree ds
    → All (IsResidue f) points → IsIndependent points → IsMonic cs (length points) → IsMonic ds (length points)
    → VanishesAt f cs points → VanishesAt f ds points → trimmed cs ≡ trimmed ds
