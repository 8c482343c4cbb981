-- Rows in reduced row echelon form: what they leave of a number, and one more row.
use Rattle.std.proofs.Common.{◌≡◌, ℕ, suc, ◌+◌, ◌^◌, ◌<◌, ◌≤◌, true, false, ◌⊎◌, List, [], ◌∷◌, ◌++◌, length, map, fold, get_or, sym, ap, ◌∙◌, subst, inl, inr, bit_xor, arith}
use Rattle.std.specs.Prelude.{All, AllPairs}
use Rattle.std.specs.Int.{bit_at}
use Rattle.std.specs.Int.Bits.{xor_self, xor_lt}
use Rattle.std.proofs.Math.Pow.{pow_mono}
use Rattle.std.proofs.lemmas.Nat.Bits.{bit_at-zero}
use Rattle.std.proofs.lemmas.Bool.{cases_lt, cases_order, false_from_ne_true}
use Rattle.std.proofs.lemmas.List.{append_assoc, get_or-map, length-map}
use Rattle.std.proofs.lemmas.List.Elements.{All-nil, All-cons, All-head, All-tail, All-append, All-map}
use Rattle.std.proofs.lemmas.List.Kept.{AllPairs-cons}
use Rattle.kk_rows.specs.Span.{in_span, innovative_after, dimension}
use Rattle.kk_rows.specs.Echelon.{IsLeadingBit, IsClearAt, IsClear, LeadsAbove, IsReduced, HasLeads, cleared}
use Rattle.kk_rows.proofs.Sums.{xor_twice_left, xor_swap}
use Rattle.kk_rows.proofs.Spans.{same_bool, in_span-zero, in_span_skip, in_span_use, in_span_cases, in_span-nil, in_span-least, in_span-xor, in_span-xor_back, in_span-head, in_span-each, in_span-within, in_span-append_left, in_span-append_right, in_span-append_least, in_span-push_skip, in_span-push_itself}
use Rattle.kk_rows.proofs.Dimensions.{dimension-le_width, innovative_after_outside, innovative_after-nil}
use Rattle.kk_rows.proofs.Leading.{bit_cases, bit_zero_zero, bit_one_zero, bit_one_one, zero_is_not_one, power_le, leading_bit, leading_bit_is_one, lt-xor, gt-xor}

-- ---- lists

pub All-parts : (P : ℕ → Type 0) (a b : List ℕ) → All P (a ++ b) → All P a × All P b
All-parts P [] b h = (All-nil P, h)
All-parts P (x ∷ a) b h =
    let rest = All-parts P a b (All-tail P x (a ++ b) h) in (All-cons P x a (All-head P x (a ++ b) h) rest.0, rest.1)

pub All-both : (P Q : ℕ → Type 0) (xs : List ℕ) → All P xs → All Q xs → All (λ x. P x × Q x) xs
All-both P Q xs p q = λ k d h. (p k d h, q k d h)

AllPairs-first : (R : ℕ → ℕ → Type 0) (x : ℕ) (xs : List ℕ) → AllPairs R (x ∷ xs) → All (R x) xs
AllPairs-first R x xs h = λ k d below. h 0 (suc k) d (omega arith) (omega arith)

AllPairs-rest : (R : ℕ → ℕ → Type 0) (x : ℕ) (xs : List ℕ) → AllPairs R (x ∷ xs) → AllPairs R xs
AllPairs-rest R x xs h = λ i j d lt below. h (suc i) (suc j) d (omega arith) (omega arith)

AllPairs-nil : (R : ℕ → ℕ → Type 0) → AllPairs R []
AllPairs-nil R = λ i j d lt below. absurd (omega arith)

-- the form by recursion, which the proofs below go through

abbrev pub AreApart : ℕ → ℕ → Type 0
AreApart upper lower = LeadsAbove upper lower × IsClearAt lower upper × IsClearAt upper lower

abbrev pub Reduces : List ℕ → Type 0
Reduces [] = Unit {0}
Reduces (r ∷ rows) = (0 < r) × All (λ s. AreApart r s) rows × Reduces rows

pub Reduces-from : (rows : List ℕ) → IsReduced rows → Reduces rows
Reduces-from [] h = tt
Reduces-from (r ∷ rows) h =
    let above = AllPairs-first LeadsAbove r rows h.falling in
    let up = AllPairs-first (λ upper lower. IsClearAt lower upper) r rows h.clear_above in
    let down = AllPairs-first (λ upper lower. IsClearAt upper lower) r rows h.clear_below in
    let rest : IsReduced rows = record {
      nonzero = All-tail (λ x. 0 < x) r rows h.nonzero;
      falling = AllPairs-rest LeadsAbove r rows h.falling;
      clear_above = AllPairs-rest (λ upper lower. IsClearAt lower upper) r rows h.clear_above;
      clear_below = AllPairs-rest (λ upper lower. IsClearAt upper lower) r rows h.clear_below;
    } in
    (All-head (λ x. 0 < x) r rows h.nonzero, λ k d below. (above k d below, up k d below, down k d below), Reduces-from rows rest)

pub IsReduced-from : (rows : List ℕ) → Reduces rows → IsReduced rows
IsReduced-from [] h = record {
  nonzero = All-nil (λ x. 0 < x);
  falling = AllPairs-nil LeadsAbove;
  clear_above = AllPairs-nil (λ upper lower. IsClearAt lower upper);
  clear_below = AllPairs-nil (λ upper lower. IsClearAt upper lower);
}
IsReduced-from (r ∷ rows) h =
    let rest = IsReduced-from rows h.2 in
    record {
      nonzero = All-cons (λ x. 0 < x) r rows h.0 rest.nonzero;
      falling = AllPairs-cons LeadsAbove r rows (λ k d below. (h.1 k d below).0) rest.falling;
      clear_above = AllPairs-cons (λ upper lower. IsClearAt lower upper) r rows (λ k d below. (h.1 k d below).1) rest.clear_above;
      clear_below = AllPairs-cons (λ upper lower. IsClearAt upper lower) r rows (λ k d below. (h.1 k d below).2) rest.clear_below;
    }

pub Reduces-pos : (rows : List ℕ) → Reduces rows → All (λ r. 0 < r) rows
Reduces-pos rows h = (IsReduced-from rows h).nonzero

-- ---- bits made 0

pub IsClearAt-xor : (row a b : ℕ) → IsClearAt row a → IsClearAt row b → IsClearAt row (bit_xor a b)
IsClearAt-xor row a b ha hb = λ p lead. bit_zero_zero a b p (ha p lead) (hb p lead)

pub cleared_either : (v row : ℕ) → (cleared v row ≡ v) ⊎ (cleared v row ≡ bit_xor v row)
cleared_either v row = elim (cases_lt v (bit_xor v row)) [ inl k ↦ inl (omega arith) | inr k ↦ inr (omega arith) ]

pub cleared_at : (row p v : ℕ) → IsLeadingBit row p → ((bit_at v p ≡ 0) × (cleared v row ≡ v)) ⊎ ((bit_at v p ≡ 1) × (cleared v row ≡ bit_xor v row))
cleared_at row p v lead = elim (bit_cases v p) [
  | inl e ↦ let lt = lt-xor row p v lead e in inl (e, omega arith)
  | inr e ↦ let gt = gt-xor row p v lead e in inr (e, omega arith)
]

pub cleared_is_clear : (row v : ℕ) → IsClearAt row (cleared v row)
cleared_is_clear row v = λ p lead. elim (cleared_at row p v lead) [
  | inl e ↦ ap (λ x. bit_at x p) e.1 ∙ e.0
  | inr e ↦ ap (λ x. bit_at x p) e.1 ∙ bit_one_one v row p e.0 lead.is_one
]

-- ---- what the rows leave of a number

pub in_span-fold_cleared : (rows : List ℕ) (v : ℕ) → in_span rows (bit_xor v (fold cleared v rows)) ≡ true
in_span-fold_cleared [] v =
    let P : ℕ → Type 0 = λ x. in_span [] x ≡ true in subst P (sym (xor_self v)) (in_span-zero [])
in_span-fold_cleared (r ∷ rows) v =
    let P : ℕ → Type 0 = λ x. in_span rows x ≡ true in
    let left = fold cleared (cleared v r) rows in
    let rest = in_span-fold_cleared rows (cleared v r) in
    elim (cleared_either v r) [
      | inl e ↦ in_span_skip r rows _ (subst (λ x. in_span rows (bit_xor x left) ≡ true) e rest)
      | inr e ↦ in_span_use r rows _ (subst P (xor_swap v r left) (subst (λ x. in_span rows (bit_xor x left) ≡ true) e rest))
    ]

-- members of a span whose rows are all clear at a bit are clear there
pub in_span-clear : (row : ℕ) (rows : List ℕ) → All (λ s. IsClearAt row s) rows → (v : ℕ) → in_span rows v ≡ true → IsClearAt row v
in_span-clear row rows each v h =
    in_span-least (λ x. IsClearAt row x) (λ p lead. bit_at-zero p) (IsClearAt-xor row) rows each v h

pub IsClear-fold_cleared : (rows : List ℕ) → Reduces rows → (v : ℕ) → IsClear rows (fold cleared v rows)
IsClear-fold_cleared [] h v = All-nil (λ row. IsClearAt row v)
IsClear-fold_cleared (r ∷ rows) h v =
    let first = cleared v r in
    let left = fold cleared first rows in
    let apart = in_span-clear r rows (λ k d below. (h.1 k d below).2) (bit_xor first left) (in_span-fold_cleared rows first) in
    let here : IsClearAt r left = subst (λ x. IsClearAt r x) (xor_twice_left first left) (IsClearAt-xor r first (bit_xor first left) (cleared_is_clear r v) apart) in
    All-cons (λ row. IsClearAt row left) r rows here (IsClear-fold_cleared rows h.2 first)

-- a member of the span that is clear at every leading bit is 0
pub zero_from_clear : (rows : List ℕ) → Reduces rows → (w : ℕ) → in_span rows w ≡ true → IsClear rows w → w ≡ 0
zero_from_clear [] h w inside clear = in_span-nil w inside
zero_from_clear (r ∷ rows) h w inside clear = elim (in_span_cases r rows w inside) [
  | inl skipped ↦ zero_from_clear rows h.2 w skipped (All-tail (λ row. IsClearAt row w) r rows clear)
  | inr used ↦
      let lead = leading_bit r h.0 in
      let sum = in_span-clear r rows (λ k d below. (h.1 k d below).2) (bit_xor w r) used lead.0 lead.1 in
      let mine = All-head (λ row. IsClearAt row w) r rows clear lead.0 lead.1 in
      let back : bit_at r lead.0 ≡ 0 = subst (λ x. bit_at x lead.0 ≡ 0) (xor_twice_left w r) (bit_zero_zero w (bit_xor w r) lead.0 mine sum) in
      absurd (zero_is_not_one _ back lead.1.is_one)
]

-- ---- reduced rows are independent

Reduces-front : (before : List ℕ) (r : ℕ) (rows : List ℕ) → Reduces (before ++ r ∷ rows) → Reduces before × IsClear before r × (0 < r)
Reduces-front [] r rows h = (tt, All-nil (λ row. IsClearAt row r), h.0)
Reduces-front (b ∷ before) r rows h =
    let rest = Reduces-front before r rows h.2 in
    let parts = All-parts (λ s. AreApart b s) before (r ∷ rows) h.1 in
    let apart = All-head (λ s. AreApart b s) r rows parts.1 in
    ((h.0, parts.0, rest.0), All-cons (λ row. IsClearAt row r) b before apart.2 rest.1, rest.2)

length_after_reduced : (before rows : List ℕ) → Reduces (before ++ rows) → length (innovative_after before rows) ≡ length rows
length_after_reduced before [] h = ap length (innovative_after-nil before)
length_after_reduced before (r ∷ rows) h =
    let front = Reduces-front before r rows h in
    let outside : in_span before r ≡ false = false_from_ne_true _ (λ k. let e = zero_from_clear before front.0 r k front.1 in absurd (omega arith)) in
    let same : before ++ (r ∷ rows) ≡ (before ++ r ∷ []) ++ rows = sym (append_assoc before (r ∷ []) rows) in
    ap length (innovative_after_outside before r rows outside) ∙ ap suc (length_after_reduced (before ++ r ∷ []) rows (subst Reduces same h))

pub dimension_reduced : (rows : List ℕ) → IsReduced rows → dimension rows ≡ length rows
dimension_reduced rows h = length_after_reduced [] rows (Reduces-from rows h)

-- and are at most as many as the bits of the widest
pub length_reduced-le : (n : ℕ) (rows : List ℕ) → IsReduced rows → All (λ r. r < 2 ^ n) rows → length rows ≤ n
length_reduced-le n rows h each = omega (arith, dimension_reduced rows h, dimension-le_width n rows each)

-- ---- one more row

lead_order : (upper lower p q : ℕ) → IsLeadingBit upper p → IsLeadingBit lower q → lower ≤ upper → (p ≡ q → ⊥) → q < p
lead_order upper lower p q hp hq le apart = elim (cases_order q p) [
  | inl same ↦ absurd (apart (sym same))
  | inr k ↦ elim k [
    | inl lt ↦ lt
    | inr gt ↦
        let above : p + 1 ≤ q = omega arith in
        let m : 2 ^ (p + 1) ≤ 2 ^ q = pow_mono above in
        absurd (omega (arith, hp.none_above, m, power_le lower q hq.is_one))
  ]
]

module _ (w : ℕ) (some : 0 < w) where
  pub lead_kept : (r p : ℕ) → IsClearAt r w → IsLeadingBit r p → IsLeadingBit (cleared r w) p
  lead_kept r p clear lead =
      let top = leading_bit w some in
      elim (cleared_at w top.0 r top.1) [
        | inl e ↦ subst (λ x. IsLeadingBit x p) (sym e.1) lead
        | inr e ↦
            let low : top.0 < p = elim (cases_order top.0 p) [
              | inl same ↦ absurd (zero_is_not_one _ (clear p lead) (subst (λ q. bit_at w q ≡ 1) same top.1.is_one))
              | inr k ↦ elim k [
                | inl lt ↦ lt
                | inr gt ↦
                    let le : p + 1 ≤ top.0 = omega arith in
                    let m : 2 ^ (p + 1) ≤ 2 ^ top.0 = pow_mono le in
                    absurd (omega (arith, lead.none_above, m, power_le r top.0 e.0))
              ]
            ] in
            let le : top.0 + 1 ≤ p + 1 = omega arith in
            let m : 2 ^ (top.0 + 1) ≤ 2 ^ (p + 1) = pow_mono le in
            let small : w < 2 ^ (p + 1) = omega (arith, m, top.1.none_above) in
            let sum : IsLeadingBit (bit_xor r w) p = record {
              is_one = bit_one_zero r w p lead.is_one (clear p lead);
              none_above = xor_lt (p + 1) r w lead.none_above small;
            } in
            subst (λ x. IsLeadingBit x p) (sym e.1) sum
      ]

  lead_kept_back : (r p : ℕ) → 0 < r → IsClearAt r w → IsLeadingBit (cleared r w) p → IsLeadingBit r p
  lead_kept_back r p pos clear lead =
      let was = leading_bit r pos in
      subst (λ q. IsLeadingBit r q) (leading_bit_is_one (cleared r w) was.0 p (lead_kept r was.0 clear was.1) lead) was.1

  clear_kept : (s r : ℕ) → IsClearAt s r → IsClearAt s w → IsClearAt s (cleared r w)
  clear_kept s r hr hw = elim (cleared_either r w) [
    | inl e ↦ subst (λ x. IsClearAt s x) (sym e) hr
    | inr e ↦ subst (λ x. IsClearAt s x) (sym e) (IsClearAt-xor s r w hr hw)
  ]

  apart_kept : (r s : ℕ) → 0 < r → 0 < s → IsClearAt r w → IsClearAt s w → AreApart r s → AreApart (cleared r w) (cleared s w)
  apart_kept r s hr hs cr cs apart = (
    λ p q lr ls. apart.0 p q (lead_kept_back r p hr cr lr) (lead_kept_back s q hs cs ls),
    λ p ls. clear_kept s r apart.1 cs p (lead_kept_back s p hs cs ls),
    λ p lr. clear_kept r s apart.2 cr p (lead_kept_back r p hr cr lr),
  )

  cleared_pos : (r : ℕ) → 0 < r → IsClearAt r w → 0 < cleared r w
  cleared_pos r hr cr =
      let lead = leading_bit r hr in
      let kept = lead_kept r lead.0 cr lead.1 in
      elim (cases_lt 0 (cleared r w)) [
        | inl k ↦ k
        | inr k ↦ let e : cleared r w ≡ 0 = omega arith in
            absurd (zero_is_not_one _ (ap (λ x. bit_at x lead.0) e ∙ bit_at-zero lead.0) kept.is_one)
      ]

  pub Reduces-map_cleared : (rows : List ℕ) → Reduces rows → IsClear rows w → Reduces (map (λ r. cleared r w) rows)
  Reduces-map_cleared [] h clear = tt
  Reduces-map_cleared (r ∷ rows) h clear =
      let cr = All-head (λ row. IsClearAt row w) r rows clear in
      let rest = All-tail (λ row. IsClearAt row w) r rows clear in
      let pos = Reduces-pos rows h.2 in
      (cleared_pos r h.0 cr, All-map (λ s. AreApart (cleared r w) s) (λ r. cleared r w) rows (λ k d below. apart_kept r (get_or rows k d) h.0 (pos k d below) cr (rest k d below) (h.1 k d below)), Reduces-map_cleared rows h.2 rest)

  apart_above : (r : ℕ) → 0 < r → IsClearAt r w → w ≤ cleared r w → AreApart (cleared r w) w
  apart_above r hr cr above = (
    λ p q lr lw. lead_order (cleared r w) w p q lr lw above (λ same. zero_is_not_one _ (cleared_is_clear w r q lw) (subst (λ x. bit_at (cleared r w) x ≡ 1) same lr.is_one)),
    cleared_is_clear w r,
    λ p lr. cr p (lead_kept_back r p hr cr lr),
  )

  apart_below : (r : ℕ) → 0 < r → IsClearAt r w → cleared r w ≤ w → AreApart w (cleared r w)
  apart_below r hr cr below = (
    λ p q lw lr. lead_order w (cleared r w) p q lw lr below (λ same. zero_is_not_one _ (cleared_is_clear w r p lw) (subst (λ x. bit_at (cleared r w) x ≡ 1) (sym same) lr.is_one)),
    λ p lr. cr p (lead_kept_back r p hr cr lr),
    cleared_is_clear w r,
  )

  Reduces-insert : (front back : List ℕ) → Reduces (front ++ back) → All (λ x. AreApart x w) front → All (λ x. AreApart w x) back → Reduces (front ++ w ∷ back)
  Reduces-insert [] back h above below = (some, below, h)
  Reduces-insert (f ∷ front) back h above below =
      let parts = All-parts (λ s. AreApart f s) front back h.1 in
      let mine = All-head (λ x. AreApart x w) f front above in
      (h.0, All-append (λ s. AreApart f s) front (w ∷ back) parts.0 (All-cons (λ s. AreApart f s) w back mine parts.1), Reduces-insert front back h.2 (All-tail (λ x. AreApart x w) f front above) below)

either_in : (old : List ℕ) (r w : ℕ) → in_span old r ≡ true → in_span old w ≡ true → in_span old (cleared r w) ≡ true
either_in old r w hr hw = elim (cleared_either r w) [
  | inl e ↦ subst (λ x. in_span old x ≡ true) (sym e) hr
  | inr e ↦ subst (λ x. in_span old x ≡ true) (sym e) (in_span-xor old r w hr hw)
]

either_back : (new : List ℕ) (r w : ℕ) → in_span new (cleared r w) ≡ true → in_span new w ≡ true → in_span new r ≡ true
either_back new r w h hw = elim (cleared_either r w) [
  | inl e ↦ subst (λ x. in_span new x ≡ true) e h
  | inr e ↦ in_span-xor_back new r w (subst (λ x. in_span new x ≡ true) e h) hw
]

kept_in : (w : ℕ) (rows kept : List ℕ) → kept ≡ map (λ r. cleared r w) rows → All (λ r. in_span kept (cleared r w) ≡ true) rows
kept_in w rows kept e = λ k d lt.
    let f : ℕ → ℕ = λ r. cleared r w in
    let below : k < length (map f rows) = omega (arith, length-map rows f) in
    subst (λ l. in_span l (f (get_or rows k d)) ≡ true) (sym e)
    (subst (λ y. in_span (map f rows) y ≡ true) (get_or-map f rows k d (f d) lt) (in_span-each (map f rows) k (f d) below))

-- the rows with the new one at its place: those above it, and those below
pub inserted_is_reduced : (w : ℕ) → 0 < w → (rows front back : List ℕ) → IsReduced rows → IsClear rows w → map (λ r. cleared r w) rows ≡ front ++ back → All (λ x. w ≤ x) front → All (λ x. x ≤ w) back → IsReduced (front ++ w ∷ back)
inserted_is_reduced w some rows front back h clear split above below =
    let red = Reduces-from rows h in
    let Side : ℕ → Type 0 = λ x. (w ≤ x → AreApart x w) × (x ≤ w → AreApart w x) in
    let sides : All Side (front ++ back) = subst (All Side) split (All-map Side (λ r. cleared r w) rows (λ k d lt. (apart_above w some (get_or rows k d) (h.nonzero k d lt) (clear k d lt), apart_below w some (get_or rows k d) (h.nonzero k d lt) (clear k d lt)))) in
    let parts = All-parts Side front back sides in
    let ups : All (λ x. AreApart x w) front = λ k d lt. (parts.0 k d lt).0 (above k d lt) in
    let downs : All (λ x. AreApart w x) back = λ k d lt. (parts.1 k d lt).1 (below k d lt) in
    IsReduced-from (front ++ w ∷ back) (Reduces-insert w some front back (subst Reduces split (Reduces-map_cleared w some rows red clear)) ups downs)

pub inserted_below : (n w : ℕ) → w < 2 ^ n → (rows front back : List ℕ) → All (λ r. r < 2 ^ n) rows → map (λ r. cleared r w) rows ≡ front ++ back → All (λ r. r < 2 ^ n) (front ++ w ∷ back)
inserted_below n w small rows front back each split =
    let P : ℕ → Type 0 = λ r. r < 2 ^ n in
    let kept : All P (front ++ back) = subst (All P) split (All-map P (λ r. cleared r w) rows (λ k d lt. let e = each k d lt in omega arith)) in
    let parts = All-parts P front back kept in
    All-append P front (w ∷ back) parts.0 (All-cons P w back small parts.1)

-- the rows keep their leading bits
pub inserted_leads : (leads w : ℕ) → 0 < w → (rows front back : List ℕ) → IsReduced rows → IsClear rows w → map (λ r. cleared r w) rows ≡ front ++ back
    → HasLeads leads rows → HasLeads leads (w ∷ []) → HasLeads leads (front ++ w ∷ back)
inserted_leads leads w some rows front back h clear split old new =
    let P : ℕ → Type 0 = λ r. (p : ℕ) → IsLeadingBit r p → bit_at leads p ≡ 1 in
    let kept : All P (front ++ back) = subst (All P) split (All-map P (λ r. cleared r w) rows
    (λ k d lt p lead. old k d lt p (lead_kept_back w some (get_or rows k d) p (h.nonzero k d lt) (clear k d lt) lead))) in
    let parts = All-parts P front back kept in
    All-append P front (w ∷ back) parts.0 (All-cons P w back (All-head P w [] new) parts.1)

-- the span is that of the old rows and v, where w is what the rows leave of v
pub inserted_spans : (w v : ℕ) (rows front back : List ℕ) → in_span rows (bit_xor v w) ≡ true → map (λ r. cleared r w) rows ≡ front ++ back → (x : ℕ) → in_span (front ++ w ∷ back) x ≡ in_span (rows ++ v ∷ []) x
inserted_spans w v rows front back rest split x =
    let new = front ++ w ∷ back in
    let old = rows ++ v ∷ [] in
    let old_w : in_span old w ≡ true = subst (λ y. in_span old y ≡ true) (xor_twice_left v w) (in_span-xor old v (bit_xor v w) (in_span-push_itself rows v) (in_span-push_skip rows v _ rest)) in
    let old_kept : All (λ y. in_span old y ≡ true) (front ++ back) = subst (All (λ y. in_span old y ≡ true)) split (All-map (λ y. in_span old y ≡ true) (λ r. cleared r w) rows (λ k d lt. either_in old (get_or rows k d) w (in_span-push_skip rows v _ (in_span-each rows k d lt)) old_w)) in
    let parts = All-parts (λ y. in_span old y ≡ true) front back old_kept in
    let old_new : All (λ y. in_span old y ≡ true) new = All-append (λ y. in_span old y ≡ true) front (w ∷ back) parts.0 (All-cons (λ y. in_span old y ≡ true) w back old_w parts.1) in
    let new_w : in_span new w ≡ true = in_span-append_right front (w ∷ back) w (in_span-head w back) in
    let new_kept : (y : ℕ) → in_span (front ++ back) y ≡ true → in_span new y ≡ true = in_span-append_least front back new (in_span-append_left front (w ∷ back)) (λ y k. in_span-append_right front (w ∷ back) y (in_span_skip w back y k)) in
    let kept_each : All (λ r. in_span (front ++ back) (cleared r w) ≡ true) rows = kept_in w rows (front ++ back) (sym split) in
    let new_rows : All (λ y. in_span new y ≡ true) rows = λ k d lt. either_back new (get_or rows k d) w (new_kept _ (kept_each k d lt)) new_w in
    let new_v : in_span new v ≡ true = in_span-xor_back new v w (in_span-within rows new new_rows (bit_xor v w) rest) new_w in
    same_bool _ _ (in_span-within new old old_new x)
    (in_span-within old new (All-append (λ y. in_span new y ≡ true) rows (v ∷ []) new_rows (All-cons (λ y. in_span new y ≡ true) v [] new_v (All-nil (λ y. in_span new y ≡ true)))) x)
