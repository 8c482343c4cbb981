-- Irreducible polynomials: trying all products decides it, since a factor has a lower degree than the product.
use Rattle.std.proofs.Common.{◌≡◌, ℕ, suc, ◌+◌, ◌-◌, ◌^◌, ◌<◌, ◌≤◌, Bool, true, false, not, eqb, leb, List, refl, sym, ap, subst, inl, inr, ◌∙◌, arith, eq-eqb, le-leb}
use Rattle.std.specs.Bool.{Decides}
use Rattle.std.specs.List.{list_any, range_with_len}
use Rattle.std.proofs.lemmas.List.Folds.{list_any_at, Any-from_list_any}
use Rattle.std.proofs.lemmas.List.FromFn.{length-range_with_len, get_or-range_with_len}
use Rattle.std.proofs.lemmas.Bool.{false≢true, eqb-true, cases_Bool, and_parts, leb-true}
use Rattle.std.proofs.Math.Pow.{pow_mono}
use Rattle.kk_field.specs.Polynomial.{product, is_factor, irreducible, IsIrreducible}
use Rattle.kk_field.specs.FieldExamples.{seven_is_irreducible, eleven_is_irreducible}
use Rattle.kk_field.proofs.Degrees.{HasDegree, degree_of, degree-at_least, HasDegree-product}

-- in a product of degree m of two polynomials of degree at least 1, both degrees are below m
factors_below : (m a b : ℕ) → 2 ≤ a → 2 ≤ b → HasDegree (product a b) m → (a < 2 ^ m) × (b < 2 ^ m)
factors_below m a b ha hb h =
    let j = degree_of a (omega arith) in
    let k = degree_of b (omega arith) in
    let d = HasDegree-product a j.0 b k.0 j.1 k.1 in
    let j_one : 1 ≤ j.0 = degree-at_least 1 a j.0 ha j.1.below in
    let k_one : 1 ≤ k.0 = degree-at_least 1 b k.0 hb k.1.below in
    let sum : j.0 + k.0 ≤ m = degree-at_least (j.0 + k.0) (product a b) m d.at_least h.below in
    let j_up : suc j.0 ≤ m = omega arith in
    let k_up : suc k.0 ≤ m = omega arith in
    let j_power : 2 ^ suc j.0 ≤ 2 ^ m = pow_mono j_up in
    let k_power : 2 ^ suc k.0 ≤ 2 ^ m = pow_mono k_up in
    (omega (arith, j.1.below), omega (arith, k.1.below))

-- no factor is above the product
factors_up_to : (p a b : ℕ) → 2 ≤ p → 2 ≤ a → 2 ≤ b → product a b ≡ p → (a ≤ p) × (b ≤ p)
factors_up_to p a b hp ha hb e =
    let positive : 0 < p = omega (arith, hp) in
    let m = degree_of p positive in
    let below = factors_below m.0 a b ha hb (subst (λ n. HasDegree n m.0) (sym e) m.1) in
    (omega (arith, below.0, m.1.at_least), omega (arith, below.1, m.1.at_least))

-- the numbers from 2 to p
abbrev candidates : ℕ → List ℕ
candidates p = range_with_len 2 (p - 1)

candidate_passes : (t : ℕ → Bool) (p a : ℕ) → 2 ≤ a → a ≤ p → t a ≡ true → list_any t (candidates p) ≡ true
candidate_passes t p a ha up_to h =
    let inside : a - 2 < p - 1 = omega arith in
    list_any_at t (candidates p) (a - 2) a (omega (arith, length-range_with_len 2 (p - 1)))
    (ap t (get_or-range_with_len 2 (p - 1) (a - 2) a inside ∙ omega arith) ∙ h)

passing_candidate : (t : ℕ → Bool) (p : ℕ) → list_any t (candidates p) ≡ true → (a : ℕ) × (2 ≤ a) × (t a ≡ true)
passing_candidate t p h =
    let found = Any-from_list_any t (candidates p) h in
    let inside : found.0 < p - 1 = omega (arith, found.2, length-range_with_len 2 (p - 1)) in
    let is : 2 + found.0 ≡ found.1 = sym (get_or-range_with_len 2 (p - 1) found.0 found.1 inside) ∙ found.3 in
    (found.1, omega arith, found.4)

-- where two factors are found, and where none is
factors-from_search : (p : ℕ) → list_any (is_factor p) (candidates p) ≡ true → IsIrreducible p → ⊥
factors-from_search p h none =
    let a = passing_candidate (is_factor p) p h in
    let b = passing_candidate (λ b. eqb (product a.0 b) p) p a.2 in
    none.no_factors a.0 b.0 a.1 b.1 (eqb-true (product a.0 b.0) p b.2)

IsIrreducible-from_search : (p : ℕ) → 2 ≤ p → list_any (is_factor p) (candidates p) ≡ false → IsIrreducible p
IsIrreducible-from_search p two none = record {
  at_least_two = two;
  no_factors = λ a b ha hb e.
      let up_to = factors_up_to p a b two ha hb e in
      false≢true (sym none ∙ candidate_passes (is_factor p) p a ha up_to.0 (candidate_passes (λ b. eqb (product a b) p) p b hb up_to.1 (eq-eqb (product a b) p e)));
}

pub irreducible-Decides : (p : ℕ) → Decides (irreducible p) (IsIrreducible p)
unfolding irreducible
irreducible-Decides p = (
  λ h.
      let parts = and_parts (leb 2 p) _ h in
      elim (cases_Bool (list_any (is_factor p) (candidates p))) [
        | inl found ↦ absurd (false≢true (ap not (sym found) ∙ parts.1))
        | inr none ↦ IsIrreducible-from_search p (leb-true 2 p parts.0) none
      ],
  λ h.
      elim (cases_Bool (list_any (is_factor p) (candidates p))) [
        | inl found ↦ absurd (factors-from_search p found h)
        | inr none ↦ rw (none, le-leb 2 p h.at_least_two) refl
      ],
)

pub seven : IsIrreducible 7
seven = (irreducible-Decides 7).0 seven_is_irreducible

pub eleven : IsIrreducible 11
eleven = (irreducible-Decides 11).0 eleven_is_irreducible
