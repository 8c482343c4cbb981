-- Rests: zero, or of a smaller degree than the divisor.
use Rattle.std.proofs.Common.{◌≡◌, ◌≢◌, ℕ, suc, ◌+◌, ◌-◌, ◌<◌, ◌≤◌, List, Option, Some, None, true, is_some, length, take, refl, sym, ap, ◌∙◌, arith, inl, inr}
use Rattle.std.specs.Prelude.{slice_index, IsSome}
use Rattle.std.proofs.lemmas.Bool.{cases_lt, cases_eq}
use Rattle.std.proofs.lemmas.List.{get_or_past, get_or-take, length-take-le, take_all}
use Rattle.kk_linpoly.specs.LinPoly.{trimmed, degree}
use Rattle.kk_linpoly.proofs.Trimmed.{slice_index-trimmed, trimmed-same, length-trimmed-le, length-trimmed_of_degree, length-trimmed_of_zero}
use Rattle.kk_linpoly.proofs.Loops.{zero_passed}
use Rattle.kk_ore.specs.Division.{IsBelow}

-- a polynomial has no coefficient from its trimmed length on
pub coefficient-past : (cs : List ℕ) (n : ℕ) → length (trimmed cs) ≤ n → slice_index cs n ≡ 0
coefficient-past cs n past = sym (slice_index-trimmed cs n) ∙ get_or_past (trimmed cs) n 0 past

pub length-trimmed_past : (cs : List ℕ) (e : ℕ) → ((n : ℕ) → e ≤ n → slice_index cs n ≡ 0) → length (trimmed cs) ≤ e
length-trimmed_past cs e none =
    elim (cases_lt e (length cs)) [
      | inl within ↦
          let front : length (take e cs) ≡ e = length-take-le e cs (omega arith) in
          omega (arith, ap length (trimmed-same cs (take e cs) (record { coefficients = same front })), length-trimmed-le (take e cs), front)
      | inr short ↦ omega (arith, length-trimmed-le cs)
    ]
  where
    same : length (take e cs) ≡ e → (n : ℕ) → slice_index cs n ≡ slice_index (take e cs) n
    same front n =
        elim (cases_lt n e) [
          | inl less ↦ sym (get_or-take e cs n 0 less)
          | inr past ↦ none n past ∙ sym (get_or_past (take e cs) n 0 (omega (arith, front)))
        ]

pub IsBelow-from : (r b : List ℕ) (e : ℕ) → degree b ≡ Some e → ((n : ℕ) → e ≤ n → slice_index r n ≡ 0) → IsBelow r b
IsBelow-from r b e b_degree none = record {
  smaller = λ d r_degree. (e, b_degree, omega (arith, length-trimmed_past r e none, length-trimmed_of_degree r d r_degree));
}

pub coefficient-below : (r b : List ℕ) (e : ℕ) → IsBelow r b → degree b ≡ Some e → (n : ℕ) → e ≤ n → slice_index r n ≡ 0
coefficient-below r b e below b_degree n past = coefficient-past r n (short (degree r) refl)
  where
    short : (o : Option ℕ) → degree r ≡ o → length (trimmed r) ≤ n
    short None none = omega (arith, length-trimmed_of_zero r none)
    short (Some d) some =
        let smaller = below.smaller d some in
        let same : smaller.0 ≡ e = inside (smaller.0) (sym smaller.1 ∙ b_degree) in
        omega (arith, smaller.2, same, length-trimmed_of_degree r d some)
      where
        inside : (k : ℕ) → Some k ≡ Some e → k ≡ e
        inside k same = cc

-- the last coefficient of a list without zeros at its end
pub last_coefficient : (cs : List ℕ) → trimmed cs ≡ cs → 0 < length cs → 0 < slice_index cs (length cs - 1)
last_coefficient cs same some =
    elim (cases_eq (slice_index cs (length cs - 1)) 0) [
      | inl none ↦
          let n = length cs - 1 in
          let next : n + 1 ≡ length cs = omega arith in
          let whole : take (n + 1) cs ≡ cs = take_all (n + 1) cs (omega arith) in
          let passed : trimmed (take (n + 1) cs) ≡ trimmed (take n cs) = zero_passed cs n (omega arith) none in
          absurd (omega (arith, ap length (sym same ∙ ap trimmed (sym whole) ∙ passed), length-trimmed-le (take n cs), length-take-le n cs (omega arith)))
      | inr more ↦ omega arith
    ]

leading_some : (cs : List ℕ) (e : ℕ) → degree cs ≡ Some e → slice_index cs e ≢ 0
leading_some cs e cs_degree none =
    let count : length (trimmed cs) ≡ suc e = length-trimmed_of_degree cs e cs_degree in
    let short : length (trimmed cs) ≤ e = length-trimmed_past cs e (λ n past. elim (cases_eq n e) [
      | inl last ↦ ap (slice_index cs) last ∙ none
      | inr later ↦ coefficient-past cs n (omega (arith, count))
    ]) in
    omega (arith, count, short)

pub coefficient_past_degree : (cs : List ℕ) (e : ℕ) → degree cs ≡ Some e → (n : ℕ) → e < n → slice_index cs n ≡ 0
coefficient_past_degree cs e cs_degree n past = coefficient-past cs n (omega (arith, length-trimmed_of_degree cs e cs_degree))

pub leading_coefficient : (cs : List ℕ) (e : ℕ) → degree cs ≡ Some e → 0 < slice_index cs e
leading_coefficient cs e cs_degree =
    elim (cases_eq (slice_index cs e) 0) [
      | inl none ↦ absurd (leading_some cs e cs_degree none)
      | inr more ↦ omega arith
    ]

degree_in : (o : Option ℕ) → is_some o ≡ true → (e : ℕ) × (o ≡ Some e)
degree_in None some = absurd cc
degree_in (Some e) some = (e, refl)

-- a polynomial that isn't zero has a degree
pub degree_of : (cs : List ℕ) → IsSome (degree cs) → (e : ℕ) × (degree cs ≡ Some e)
degree_of cs some = degree_in (degree cs) some
