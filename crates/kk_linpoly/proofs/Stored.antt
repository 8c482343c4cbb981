-- What the storage of a polynomial says of its coefficients.
use Rattle.std.proofs.Common.{◌≤◌, arith, ◌≡◌, ℕ, ◌+◌, ◌-◌, ◌^◌, ◌<◌, List, ◌++◌, length, take, drop, replicate, bit_xor, refl, sym, ap, ◌∙◌, subst, inl, inr, length-append, length-drop}
use Rattle.std.specs.Prelude.{slice_index}
use Rattle.std.proofs.lemmas.Bool.{cases_lt}
use Rattle.std.proofs.lemmas.List.{get_or_append_left, get_or-append_right, get_or_past, get_or-take, get_or-drop, length-take, length-take-le, length-replicate, take-take, take_at}
use Rattle.std.specs.Int.Bits.{xor_zero_l}
use Rattle.kk_field.proofs.Elimination.{slice_index-zeros}
use Rattle.kk_linpoly.specs.LinPoly.{SamePolynomial, IsOver, trimmed, sum_of}
use Rattle.kk_linpoly.specs.Storage.{IsStored}
use Rattle.kk_linpoly.proofs.Trimmed.{SamePolynomial-trans, SamePolynomial-from, SamePolynomial-trimmed, slice_index-trimmed, trimmed-same, All-trimmed, length-trimmed-le}
use Rattle.kk_linpoly.proofs.Coefficients.{slice_index-sum_of}

-- as many as its coefficients
pub count_of : (len : ℕ) (coefficients cs : List ℕ) → IsStored len coefficients → take len coefficients ≡ cs → length cs ≡ len
count_of len coefficients cs h e = ap length (sym e) ∙ length-take-le len coefficients (omega (arith, h.fits, h.whole))

-- the places past the end are 0
pub SamePolynomial-stored : (len : ℕ) (coefficients cs : List ℕ) → IsStored len coefficients → take len coefficients ≡ cs → SamePolynomial coefficients cs
SamePolynomial-stored len coefficients cs h e = record {
  coefficients = λ i. sym (slice_index-trimmed coefficients i) ∙ ap (λ l. slice_index l i) (sym h.front ∙ e);
}

pub SamePolynomial-sum_of : (cs cs' ds ds' : List ℕ) → SamePolynomial cs cs' → SamePolynomial ds ds' → SamePolynomial (sum_of cs ds) (sum_of cs' ds')
SamePolynomial-sum_of cs cs' ds ds' h k = record {
  coefficients = λ i. slice_index-sum_of cs ds i ∙ ap (λ x. bit_xor x (slice_index ds i)) (h.coefficients i)
      ∙ ap (bit_xor (slice_index cs' i)) (k.coefficients i) ∙ sym (slice_index-sum_of cs' ds' i);
}

-- zeros add nothing
pub SamePolynomial-zeros_sum : (n : ℕ) (ds : List ℕ) → SamePolynomial (sum_of (replicate n 0) ds) ds
SamePolynomial-zeros_sum n ds = record {
  coefficients = λ i. slice_index-sum_of (replicate n 0) ds i ∙ ap (λ x. bit_xor x (slice_index ds i)) (slice_index-zeros n i) ∙ xor_zero_l (slice_index ds i);
}

pub SamePolynomial-append_zeros : (cs : List ℕ) (n : ℕ) → SamePolynomial (cs ++ replicate n 0) cs
SamePolynomial-append_zeros cs n = record {
  coefficients = λ i. elim (cases_lt i (length cs)) [
    | inl within ↦ get_or_append_left cs (replicate n 0) 0 i within
    | inr past ↦ get_or-append_right cs (replicate n 0) (length cs) i 0 refl past ∙ slice_index-zeros n (i - length cs) ∙ sym (get_or_past cs i 0 past)
  ];
}

pub IsOver-trimmed : (m : ℕ) (cs ds : List ℕ) → cs ≡ trimmed ds → IsOver m ds → IsOver m cs
IsOver-trimmed m cs ds e over = subst (IsOver m) (sym e) (All-trimmed (λ c. c < 2 ^ m) ds over)

pub length-trimmed_of : (cs ds : List ℕ) → cs ≡ trimmed ds → length cs ≤ length ds
length-trimmed_of cs ds e = omega (arith, ap length e, length-trimmed-le ds)

-- ---- the places from one on are 0

pub ends_stored : (len : ℕ) (coefficients : List ℕ) → IsStored len coefficients → (i : ℕ) → len ≤ i → slice_index coefficients i ≡ 0
ends_stored len coefficients h i past =
    sym (slice_index-trimmed coefficients i) ∙ ap (λ l. slice_index l i) (sym h.front)
    ∙ get_or_past (take len coefficients) i 0 (omega (arith, past, length-take len coefficients))

pub ends_of : (cs ds : List ℕ) (n : ℕ) → SamePolynomial cs ds → length ds ≤ n → (i : ℕ) → n ≤ i → slice_index cs i ≡ 0
ends_of cs ds n h short i past = h.coefficients i ∙ get_or_past ds i 0 (omega (arith, short, past))

SamePolynomial-take : (cs : List ℕ) (n : ℕ) → ((i : ℕ) → n ≤ i → slice_index cs i ≡ 0) → SamePolynomial (take n cs) cs
SamePolynomial-take cs n ends = record {
  coefficients = λ i. elim (cases_lt i n) [
    | inl within ↦ get_or-take n cs i 0 within
    | inr past ↦ get_or_past (take n cs) i 0 (omega (arith, past, length-take n cs)) ∙ sym (ends i past)
  ];
}

-- the places before it are others now
pub SamePolynomial-replaced : (n : ℕ) (new cs : List ℕ) → ((i : ℕ) → n ≤ i → slice_index cs i ≡ 0) → SamePolynomial (new ++ drop n cs) new
SamePolynomial-replaced n new cs ends = record {
  coefficients = λ i. elim (cases_lt i (length new)) [
    | inl within ↦ get_or_append_left new (drop n cs) 0 i within
    | inr past ↦
        get_or-append_right new (drop n cs) (length new) i 0 refl past ∙ get_or-drop n cs (i - length new) 0
        ∙ ends (n + (i - length new)) (omega arith) ∙ sym (get_or_past new i 0 past)
  ];
}

-- ---- what is stored where the length is set anew

-- the first len places are the coefficients of ds, and the others are 0
pub record IsStoredAs (len : ℕ) (coefficients ds : List ℕ) : Type 0 where
  pub stored : IsStored len coefficients
  pub value : take len coefficients ≡ trimmed ds

pub stored_as : (len n : ℕ) (cs ds : List ℕ) → length cs ≡ 128 → n ≤ 128 → len ≤ length (take n cs) → take len (take n cs) ≡ trimmed (take n cs)
    → ((i : ℕ) → n ≤ i → slice_index cs i ≡ 0) → SamePolynomial cs ds → IsStoredAs len cs ds
stored_as len n cs ds whole fits within front ends same =
    let count : length (take n cs) ≡ n = length-take-le n cs (omega arith) in
    let front_is : take len cs ≡ trimmed cs =
    sym (take-take len n cs (omega arith)) ∙ front ∙ trimmed-same (take n cs) cs (SamePolynomial-take cs n ends) in
    record {
      stored = record { fits = omega arith; whole = whole; front = front_is };
      value = front_is ∙ trimmed-same cs ds same;
    }

-- a list is copied without the zeros at its end
pub stored_front : (len : ℕ) (cs part : List ℕ) → len ≤ length cs → length cs ≤ 128 → take len cs ≡ trimmed cs → part ≡ take len cs
    → IsStoredAs len (part ++ drop len (replicate 128 0)) cs
stored_front len cs part within fits front part_is =
    let zeros : List ℕ = replicate 128 0 in
    let rest = drop len zeros in
    let long : length rest ≡ 128 - len = length-drop len zeros ∙ ap (λ n. n - len) (length-replicate {A = ℕ} 128 0) in
    let count : length part ≡ len = ap length part_is ∙ length-take-le len cs within in
    let first : take len (part ++ rest) ≡ trimmed cs = take_at part rest len count ∙ part_is ∙ front in
    let same : SamePolynomial (part ++ rest) cs =
    SamePolynomial-trans (part ++ rest) part cs
    (SamePolynomial-replaced len part zeros (λ i past. slice_index-zeros 128 i))
    (SamePolynomial-trans part (trimmed cs) cs (SamePolynomial-from part (trimmed cs) (part_is ∙ front)) (SamePolynomial-trimmed cs)) in
    record {
      stored = record {
        fits = omega arith;
        whole = length-append part rest ∙ omega (arith, count, within, fits, long);
        front = first ∙ sym (trimmed-same (part ++ rest) cs same);
      };
      value = first;
    }
