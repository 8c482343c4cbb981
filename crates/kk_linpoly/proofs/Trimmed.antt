-- Zeros at the end of the coefficients, and degrees.
use Rattle.std.proofs.Common.{◌≡◌, ◌≢◌, ℕ, zero, suc, ◌≤◌, List, [], ◌∷◌, ◌++◌, Option, Some, None, length, cond, eqb, refl, sym, ap, ◌∙◌, arith, subst, inl, inr}
use Rattle.std.specs.Prelude.{slice_index, All}
use Rattle.std.proofs.lemmas.Bool.{cases_eq, eq-eqb, ne_eqb}
use Rattle.std.proofs.lemmas.List.Elements.{All-nil, All-cons, All-head, All-tail}
use Rattle.kk_linpoly.specs.LinPoly.{SamePolynomial, with_first, trimmed, degree, degree_with_first}

pub SamePolynomial-refl : (cs : List ℕ) → SamePolynomial cs cs
SamePolynomial-refl cs = record { coefficients = λ i. refl }

pub SamePolynomial-sym : (cs ds : List ℕ) → SamePolynomial cs ds → SamePolynomial ds cs
SamePolynomial-sym cs ds h = record { coefficients = λ i. sym (h.coefficients i) }

pub SamePolynomial-trans : (cs ds es : List ℕ) → SamePolynomial cs ds → SamePolynomial ds es → SamePolynomial cs es
SamePolynomial-trans cs ds es h k = record { coefficients = λ i. h.coefficients i ∙ k.coefficients i }

pub SamePolynomial-from : (cs ds : List ℕ) → cs ≡ ds → SamePolynomial cs ds
SamePolynomial-from cs ds e = record { coefficients = λ i. ap (λ l. slice_index l i) e }

SamePolynomial-tail : (c d : ℕ) (cs ds : List ℕ) → SamePolynomial (c ∷ cs) (d ∷ ds) → SamePolynomial cs ds
SamePolynomial-tail c d cs ds h = record { coefficients = λ i. h.coefficients (suc i) }

-- ---- one coefficient before others

with_first-zero : with_first 0 [] ≡ []
unfolding with_first
with_first-zero = refl

with_first-positive : (c : ℕ) → c ≢ 0 → with_first c [] ≡ c ∷ []
unfolding with_first
with_first-positive c some = ap (λ b. cond b [] (c ∷ [])) (ne_eqb c 0 some)

with_first-cons : (c d : ℕ) (ds : List ℕ) → with_first c (d ∷ ds) ≡ c ∷ d ∷ ds
unfolding with_first
with_first-cons c d ds = refl

slice_index-with_first : (c : ℕ) (cs : List ℕ) (i : ℕ) → slice_index (with_first c cs) i ≡ slice_index (c ∷ cs) i
slice_index-with_first c (d ∷ ds) i = ap (λ l. slice_index l i) (with_first-cons c d ds)
slice_index-with_first c [] i =
    elim (cases_eq c 0) [
      | inl none ↦ ap (λ x. slice_index (with_first x []) i) none ∙ ap (λ l. slice_index l i) with_first-zero
          ∙ sym (zero_alone i) ∙ ap (λ x. slice_index (x ∷ []) i) (sym none)
      | inr some ↦ ap (λ l. slice_index l i) (with_first-positive c some)
    ]
  where
    zero_alone : (i : ℕ) → slice_index (0 ∷ []) i ≡ slice_index [] i
    zero_alone zero = refl
    zero_alone (suc i) = refl

-- no coefficient changes
pub slice_index-trimmed : (cs : List ℕ) (i : ℕ) → slice_index (trimmed cs) i ≡ slice_index cs i
unfolding trimmed
slice_index-trimmed [] i = refl
slice_index-trimmed (c ∷ cs) zero = slice_index-with_first c (trimmed cs) zero
slice_index-trimmed (c ∷ cs) (suc i) = slice_index-with_first c (trimmed cs) (suc i) ∙ slice_index-trimmed cs i

pub SamePolynomial-trimmed : (cs : List ℕ) → SamePolynomial (trimmed cs) cs
SamePolynomial-trimmed cs = record { coefficients = slice_index-trimmed cs }

-- coefficients that are all 0
pub trimmed-zeros : (cs : List ℕ) → ((i : ℕ) → slice_index cs i ≡ 0) → trimmed cs ≡ []
unfolding trimmed
trimmed-zeros [] none = refl
trimmed-zeros (c ∷ cs) none =
    ap (with_first c) (trimmed-zeros cs (λ i. none (suc i))) ∙ ap (λ x. with_first x []) (none 0) ∙ with_first-zero

-- the same polynomial has one form without zeros at the end
pub trimmed-same : (cs ds : List ℕ) → SamePolynomial cs ds → trimmed cs ≡ trimmed ds
unfolding trimmed
trimmed-same [] ds h = sym (trimmed-zeros ds (λ i. sym (h.coefficients i)))
trimmed-same (c ∷ cs) [] h = trimmed-zeros (c ∷ cs) (λ i. h.coefficients i)
trimmed-same (c ∷ cs) (d ∷ ds) h =
    ap (λ x. with_first x (trimmed cs)) (h.coefficients 0)
    ∙ ap (with_first d) (trimmed-same cs ds (SamePolynomial-tail c d cs ds h))

pub SamePolynomial-from_trimmed : (cs ds : List ℕ) → trimmed cs ≡ trimmed ds → SamePolynomial cs ds
SamePolynomial-from_trimmed cs ds e = record {
  coefficients = λ i. sym (slice_index-trimmed cs i) ∙ ap (λ l. slice_index l i) e ∙ slice_index-trimmed ds i;
}

pub trimmed-trimmed : (cs : List ℕ) → trimmed (trimmed cs) ≡ trimmed cs
trimmed-trimmed cs = trimmed-same (trimmed cs) cs (SamePolynomial-trimmed cs)

-- a list with a last coefficient that isn't 0 stays as it is
pub trimmed-push : (cs : List ℕ) (c : ℕ) → c ≢ 0 → trimmed (cs ++ c ∷ []) ≡ cs ++ c ∷ []
unfolding trimmed
trimmed-push [] c some = with_first-positive c some
trimmed-push (b ∷ []) c some = ap (with_first b) (trimmed-push [] c some) ∙ with_first-cons b c []
trimmed-push (b ∷ d ∷ ds) c some = ap (with_first b) (trimmed-push (d ∷ ds) c some) ∙ with_first-cons b d (ds ++ c ∷ [])

pub trimmed-push_zero : (cs : List ℕ) → trimmed (cs ++ 0 ∷ []) ≡ trimmed cs
unfolding trimmed
trimmed-push_zero [] = with_first-zero
trimmed-push_zero (c ∷ cs) = ap (with_first c) (trimmed-push_zero cs)

length-with_first : (c : ℕ) (cs : List ℕ) → length (with_first c cs) ≤ suc (length cs)
length-with_first c (d ∷ ds) = rw (with_first-cons c d ds) (omega arith)
length-with_first c [] =
    elim (cases_eq c 0) [
      | inl none ↦ rw (none, with_first-zero) (omega arith)
      | inr some ↦ rw (with_first-positive c some) (omega arith)
    ]

pub length-trimmed-le : (cs : List ℕ) → length (trimmed cs) ≤ length cs
unfolding trimmed
length-trimmed-le [] = omega arith
length-trimmed-le (c ∷ cs) = omega (arith, length-with_first c (trimmed cs), length-trimmed-le cs)

-- what holds of 0 and of each coefficient
All-with_first : (P : ℕ → Type 0) (c : ℕ) (cs : List ℕ) → P c → All P cs → All P (with_first c cs)
All-with_first P c (d ∷ ds) here rest = subst (All P) (sym (with_first-cons c d ds)) (All-cons P c (d ∷ ds) here rest)
All-with_first P c [] here rest =
    elim (cases_eq c 0) [
      | inl none ↦ subst (λ x. All P (with_first x [])) (sym none) (subst (All P) (sym with_first-zero) (All-nil P))
      | inr some ↦ subst (All P) (sym (with_first-positive c some)) (All-cons P c [] here rest)
    ]

pub All-trimmed : (P : ℕ → Type 0) (cs : List ℕ) → All P cs → All P (trimmed cs)
unfolding trimmed
All-trimmed P [] each = All-nil P
All-trimmed P (c ∷ cs) each =
    All-with_first P c (trimmed cs) (All-head P c cs each) (All-trimmed P cs (All-tail P c cs each))

-- ---- degrees

degree_with_first-none : (c : ℕ) → degree_with_first c None ≡ cond (eqb c 0) None (Some 0)
unfolding degree_with_first
degree_with_first-none c = refl

degree_with_first-some : (c e : ℕ) → degree_with_first c (Some e) ≡ Some (suc e)
unfolding degree_with_first
degree_with_first-some c e = refl

-- the degree by the length of the trimmed list
pub degree_of_length : ℕ → Option ℕ
degree_of_length zero = None
degree_of_length (suc e) = Some e

degree_of_length-with_first : (c : ℕ) (cs : List ℕ) → degree_with_first c (degree_of_length (length cs)) ≡ degree_of_length (length (with_first c cs))
unfolding degree_of_length
degree_of_length-with_first c (d ∷ ds) =
    degree_with_first-some c (length ds) ∙ ap (λ l. degree_of_length (length l)) (sym (with_first-cons c d ds))
degree_of_length-with_first c [] =
    elim (cases_eq c 0) [
      | inl none ↦ degree_with_first-none c ∙ ap (λ b. cond b None (Some 0)) (eq-eqb c 0 none)
          ∙ ap (λ l. degree_of_length (length l)) (sym with_first-zero) ∙ ap (λ x. degree_of_length (length (with_first x []))) (sym none)
      | inr some ↦ degree_with_first-none c ∙ ap (λ b. cond b None (Some 0)) (ne_eqb c 0 some)
          ∙ ap (λ l. degree_of_length (length l)) (sym (with_first-positive c some))
    ]

pub degree-by_length : (cs : List ℕ) → degree cs ≡ degree_of_length (length (trimmed cs))
unfolding degree trimmed degree_of_length
degree-by_length [] = refl
degree-by_length (c ∷ cs) = ap (degree_with_first c) (degree-by_length cs) ∙ degree_of_length-with_first c (trimmed cs)

pub degree-same : (cs ds : List ℕ) → SamePolynomial cs ds → degree cs ≡ degree ds
degree-same cs ds h =
    degree-by_length cs ∙ ap (λ l. degree_of_length (length l)) (trimmed-same cs ds h) ∙ sym (degree-by_length ds)

pub degree-some : (cs : List ℕ) (e : ℕ) → length (trimmed cs) ≡ suc e → degree cs ≡ Some e
unfolding degree_of_length
degree-some cs e h = degree-by_length cs ∙ ap degree_of_length h

pub degree-none : (cs : List ℕ) → length (trimmed cs) ≡ 0 → degree cs ≡ None
unfolding degree_of_length
degree-none cs h = degree-by_length cs ∙ ap degree_of_length h

length_from : (n e : ℕ) → degree_of_length n ≡ Some e → n ≡ suc e
unfolding degree_of_length
length_from zero e h = cc
length_from (suc n) e h = cc

no_length_from : (n : ℕ) → degree_of_length n ≡ None → n ≡ 0
unfolding degree_of_length
no_length_from zero h = refl
no_length_from (suc n) h = cc

pub length-trimmed_of_degree : (cs : List ℕ) (e : ℕ) → degree cs ≡ Some e → length (trimmed cs) ≡ suc e
length-trimmed_of_degree cs e h = length_from (length (trimmed cs)) e (sym (degree-by_length cs) ∙ h)

pub length-trimmed_of_zero : (cs : List ℕ) → degree cs ≡ None → length (trimmed cs) ≡ 0
length-trimmed_of_zero cs h = no_length_from (length (trimmed cs)) (sym (degree-by_length cs) ∙ h)
