-- One step on the log of one generation.
use Rattle.std.proofs.Common.{◌≡◌, ℕ, zero, suc, ◌^◌, ◌<◌, ◌≤◌, ◌⊎◌, Bool, true, false, List, [], ◌∷◌, ◌++◌, length, get_or, All, sym, refl, ap, ◌∙◌, subst, inl, inr, ⊎_elim, true≢false, arith, append-nil, append_assoc, length-append, pow_mono, lt_of_lt_of_le}
use Rattle.kk_rows.specs.Span.{IsIndependent}
use Rattle.kk_rows.proofs.Independence.{independent-front}
use Rattle.kk_rows.proofs.Spans.{in_span-zero}
use Rattle.kk_rows.proofs.Dimensions.{dimension-push_inside, dimension-le_length}
use Rattle.kk_machine.specs.declared.log.TheConstants.{CLOSED}
use Rattle.kk_machine.specs.declared.log.Log.{Log}
use Rattle.kk_machine.specs.Spaces.{log}
use Rattle.kk_machine.specs.Steps.{mark, word_at, IsLog, Sees}

-- the word after the rows seen is a row, the mark, or 0
pub data Found (l s : Log) (found : ℕ) : Type 0 where
  a_row : (rest : List ℕ) → l.rows ≡ s.rows ++ found ∷ rest → 0 < found → found < CLOSED → s.closed ≡ false → Found l s found
  the_mark : l ≡ log s.rows true → found ≡ CLOSED → Found l s found
  nothing : l ≡ s → s.closed ≡ false → found ≡ 0 → Found l s found

get_or-after : (xs ys : List ℕ) → get_or (xs ++ ys) (length xs) 0 ≡ get_or ys 0 0
get_or-after [] ys = refl
get_or-after (x ∷ xs) ys = get_or-after xs ys

pub log_eq : {a b : List ℕ} {c d : Bool} → a ≡ b → c ≡ d → log a c ≡ log b d
log_eq p q = λ i. log (p i) (q i)

independent_row : (xs : List ℕ) (r : ℕ) (rest : List ℕ) → IsIndependent (xs ++ r ∷ rest) → 0 < r
independent_row xs zero rest is =
    let front = independent-front (xs ++ 0 ∷ []) rest (subst IsIndependent (sym (append_assoc xs (0 ∷ []) rest)) is) in
    absurd (omega (arith, front, dimension-push_inside xs 0 (in_span-zero xs), dimension-le_length xs, length-append xs (0 ∷ [])))
independent_row xs (suc r) rest is = omega arith

row_below : (w : ℕ) (xs : List ℕ) (r : ℕ) (rest : List ℕ) → All (λ x. x < 2 ^ w) (xs ++ r ∷ rest) → r < 2 ^ w
row_below w xs r rest below =
    subst (λ x. x < 2 ^ w) (get_or-after xs (r ∷ rest)) (below (length xs) 0 (omega (arith, length-append xs (r ∷ rest))))

pub true_or_false : (b : Bool) → (b ≡ true) ⊎ (b ≡ false)
true_or_false true = inl refl
true_or_false false = inr refl

word_is : (l s : Log) (rest : List ℕ) → l.rows ≡ s.rows ++ rest → word_at l (length s.rows) ≡ get_or (rest ++ mark l.closed ∷ []) 0 0
word_is l s rest e =
    ap (λ xs. get_or (xs ++ mark l.closed ∷ []) (length s.rows) 0) e
    ∙ ap (λ xs. get_or xs (length s.rows) 0) (append_assoc s.rows rest (mark l.closed ∷ []))
    ∙ get_or-after s.rows (rest ++ mark l.closed ∷ [])

pub not_both : {b : Bool} → b ≡ true → b ≡ false → ⊥
not_both p q = true≢false (sym p ∙ q)

found_at : (w : ℕ) (l s : Log) → w ≤ 63 → IsLog w l → (rest : List ℕ) → l.rows ≡ s.rows ++ rest → (s.closed ≡ true → l ≡ s) → Found l s (get_or (rest ++ mark l.closed ∷ []) 0 0)
found_at w l s fits is [] e whole =
    let same : l.rows ≡ s.rows = e ∙ append-nil s.rows in
    ⊎_elim
    (λ (shut : l.closed ≡ true). the_mark (log_eq same shut) (ap mark shut))
    (λ (unshut : l.closed ≡ false). ⊎_elim
    (λ (seen : s.closed ≡ true). absurd (not_both (ap (λ (x : Log). x.closed) (whole seen) ∙ seen) unshut))
    (λ (unseen : s.closed ≡ false). nothing (log_eq same (unshut ∙ sym unseen)) unseen (ap mark unshut))
    (true_or_false s.closed))
    (true_or_false l.closed)
found_at w l s fits is (r ∷ rest) e whole =
    let below = row_below w s.rows r rest (subst (All (λ x. x < 2 ^ w)) e is.below) in
    a_row rest e (independent_row s.rows r rest (subst IsIndependent e is.independent)) (lt_of_lt_of_le below (pow_mono fits))
    (⊎_elim
    (λ (seen : s.closed ≡ true). absurd (omega (arith, ap (λ (x : Log). length x.rows) (whole seen), ap (λ (x : List ℕ). length x) e, length-append s.rows (r ∷ rest))))
    (λ (unseen : s.closed ≡ false). unseen)
    (true_or_false s.closed))

pub found : (w : ℕ) (l s : Log) → w ≤ 63 → IsLog w l → Sees l s → Found l s (word_at l (length s.rows))
found w l s fits is sees =
    subst (Found l s) (sym (word_is l s sees.rest sees.begins)) (found_at w l s fits is sees.rest sees.begins sees.whole)

closed_at : (l s : Log) (f : ℕ) → Found l s f → s.closed ≡ true → f ≡ CLOSED
closed_at l s f (a_row rest e pos less unseen) shut = absurd (not_both shut unseen)
closed_at l s f (the_mark e m) shut = m
closed_at l s f (nothing e unseen z) shut = absurd (not_both shut unseen)

-- who knows the log closed finds the mark
pub closed_found : (w : ℕ) (l s : Log) → w ≤ 63 → IsLog w l → Sees l s → s.closed ≡ true → word_at l (length s.rows) ≡ CLOSED
closed_found w l s fits is sees shut = closed_at l s (word_at l (length s.rows)) (found w l s fits is sees) shut
