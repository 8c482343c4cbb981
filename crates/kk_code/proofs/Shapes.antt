-- The shape of a text, as the outcomes of eight tests.
use Rattle.std.proofs.Common.{◌≡◌, ℕ, suc, ◌+◌, Bool, true, false, not, cond, List, [], ◌∷◌, Option, Some, None, Result, Ok, Err, refl, sym, ap, ◌∙◌}
use Rattle.std.specs.Prelude.{slice_get, is_none, is_some, option_map}
use Rattle.std.specs.Option.{option_map_or}
use Rattle.std.specs.Str.Parse.{digits_value}
use Rattle.std.proofs.lemmas.Bool.{cond-true, cond-false}
use Rattle.kk_code.specs.TicketText.{parts, part_at, spelled, has_form, is_mark, is_hex, is_decimal, forms, first_misshapen, shape_fault}

-- the place of the first test that fails, counted from n
unfoldable pub first_false : ℕ → List Bool → Option ℕ
first_false n [] = None
first_false n (b ∷ bs) = cond b (first_false (n + 1) bs) (Some n)

-- a part for each form, and no more
abbrev tests : ℕ → List (List ℕ → Bool) → List (List ℕ) → List Bool
tests n [] fs = is_none (slice_get fs n) ∷ []
tests n (form ∷ others) fs = option_map_or form (slice_get fs n) false ∷ tests (suc n) others fs

-- moving on by a part
tests-suc : (n : ℕ) (forms : List (List ℕ → Bool)) (f : List ℕ) (fs : List (List ℕ)) → tests (suc n) forms (f ∷ fs) ≡ tests n forms fs
tests-suc n [] f fs = refl
tests-suc n (form ∷ others) f fs = ap (λ rest. option_map_or form (slice_get fs n) false ∷ rest) (tests-suc (suc n) others f fs)

first_misshapen_is : (n : ℕ) (forms : List (List ℕ → Bool)) (fs : List (List ℕ)) → first_misshapen n forms fs ≡ first_false n (tests 0 forms fs)
unfolding first_misshapen first_false
first_misshapen_is n [] [] = refl
first_misshapen_is n [] (f ∷ fs) = refl
first_misshapen_is n (form ∷ others) [] = refl
first_misshapen_is n (form ∷ others) (f ∷ fs) =
    ap (λ rest. cond (form f) rest (Some n)) (first_misshapen_is (n + 1) others fs ∙ ap (first_false (n + 1)) (sym (tests-suc 0 others f fs)))

pub first_false-nil : (n : ℕ) → first_false n [] ≡ None
unfolding first_false
first_false-nil n = refl

pub first_false-true : (n : ℕ) (b : Bool) (bs : List Bool) → b ≡ true → first_false n (b ∷ bs) ≡ first_false (n + 1) bs
unfolding first_false
first_false-true n b bs h = cond-true b (first_false (n + 1) bs) (Some n) h

pub first_false-false : (n : ℕ) (b : Bool) (bs : List Bool) → b ≡ false → first_false n (b ∷ bs) ≡ Some n
unfolding first_false
first_false-false n b bs h = cond-false b (first_false (n + 1) bs) (Some n) h

abbrev pub shape_tests : List ℕ → List Bool
shape_tests text =
    has_form is_mark text 0 ∷ has_form (is_hex 8) text 1 ∷ has_form is_decimal text 2 ∷ has_form (is_hex 16) text 3
    ∷ has_form is_decimal text 4 ∷ has_form is_decimal text 5 ∷ has_form is_decimal text 6 ∷ is_none (slice_get (parts text) 7) ∷ []

pub shape_fault_is : (text : List ℕ) → shape_fault text ≡ first_false 0 (shape_tests text)
shape_fault_is text = first_misshapen_is 0 forms (parts text)

-- what a part's function returned
pub at_ok : {A : Type 0} {r : Result A ℕ} (b : Bool) (v x : A) (at : ℕ) → r ≡ cond b (Ok v) (Err at) → r ≡ Ok x → (b ≡ true) × (v ≡ x)
at_ok true v x at e was = (refl, cc)
at_ok false v x at e was = absurd (cc)

pub at_err : {A : Type 0} {r : Result A ℕ} (b : Bool) (v : A) (at y : ℕ) → r ≡ cond b (Ok v) (Err at) → r ≡ Err y → (b ≡ false) × (at ≡ y)
at_err true v at y e was = absurd (cc)
at_err false v at y e was = (refl, cc)

pub is_none-option_map : {A B : Type 0} (f : A → B) (o : Option A) → is_none (option_map f o) ≡ not (is_some o)
is_none-option_map f None = refl
is_none-option_map f (Some x) = refl

pub spelled_is : (text : List ℕ) (session m low l k len : ℕ) → digits_value 16 (part_at text 1) ≡ session → digits_value 10 (part_at text 2) ≡ m → digits_value 16 (part_at text 3) ≡ low → digits_value 10 (part_at text 4) ≡ l → digits_value 10 (part_at text 5) ≡ k → digits_value 10 (part_at text 6) ≡ len → spelled text ≡ record { session = session; code = record { field = record { degree = m; low = low }; l = l; k = k }; length = len }
unfolding spelled
spelled_is text session m low l k len e1 e2 e3 e4 e5 e6 = cc
