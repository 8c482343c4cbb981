-- The dimension of a span, at any width.
use Rattle.std.proofs.Common.{◌≡◌, ℕ, zero, suc, ◌+◌, ◌*◌, ◌^◌, ◌<◌, ◌≤◌, true, false, ◌||◌, List, [], ◌∷◌, ◌++◌, length, refl, sym, ap, ap₂, ◌∙◌, subst, inl, inr, bit_xor, arith, length-append}
use Rattle.std.specs.Prelude.{All}
use Rattle.std.proofs.Math.Pow.{pow-lt, pow_mono}
use Rattle.std.proofs.Math.Nat.{two-pow-succ}
use Rattle.std.proofs.lemmas.Bool.{cases_lt, cases_Bool, false_from_ne_true, or_left, or_right, or_cases, both_ways}
use Rattle.std.proofs.lemmas.List.{append-nil, append_assoc}
use Rattle.std.proofs.lemmas.List.Elements.{All-nil, All-cons, All-head, All-tail}
use Rattle.kk_rows.specs.Span.{in_span, innovative, innovative_after, dimension}
use Rattle.kk_rows.proofs.Sums.{xor_twice_left}
use Rattle.kk_rows.proofs.Spans.{same_bool, in_span-xor, in_span-xor_back, in_span-push_cases, in_span-push_skip, in_span-push_use, in_span-append_within}
use Rattle.kk_rows.proofs.Counting.{passing, passing_same, passing-le, passing-le_all, passing-or, passing-zero, passing-xor}

-- ---- one row after the others

pub innovative_after_inside : (before : List ℕ) (r : ℕ) (rows : List ℕ) → in_span before r ≡ true → innovative_after before (r ∷ rows) ≡ innovative_after (before ++ r ∷ []) rows
unfolding innovative_after
innovative_after_inside before r rows h = rw h refl

pub innovative_after_outside : (before : List ℕ) (r : ℕ) (rows : List ℕ) → in_span before r ≡ false → innovative_after before (r ∷ rows) ≡ r ∷ innovative_after (before ++ r ∷ []) rows
unfolding innovative_after
innovative_after_outside before r rows h = rw h refl

pub innovative_after-nil : (before : List ℕ) → innovative_after before [] ≡ []
unfolding innovative_after
innovative_after-nil before = refl

pub innovative_after-append : (before xs ys : List ℕ) → innovative_after before (xs ++ ys) ≡ innovative_after before xs ++ innovative_after (before ++ xs) ys
innovative_after-append before [] ys =
    rw (innovative_after-nil before, append-nil before) refl
innovative_after-append before (x ∷ xs) ys =
    let rest = innovative_after-append (before ++ x ∷ []) xs ys in
    let same : (before ++ x ∷ []) ++ xs ≡ before ++ (x ∷ xs) = append_assoc before (x ∷ []) xs in
    let joined = rest ∙ ap (λ b. innovative_after (before ++ x ∷ []) xs ++ innovative_after b ys) same in
    elim (cases_Bool (in_span before x)) [
      | inl inside ↦ innovative_after_inside before x (xs ++ ys) inside ∙ joined ∙ ap (λ l. l ++ innovative_after (before ++ x ∷ xs) ys) (sym (innovative_after_inside before x xs inside))
      | inr outside ↦ innovative_after_outside before x (xs ++ ys) outside ∙ ap (λ l. x ∷ l) joined ∙ ap (λ l. l ++ innovative_after (before ++ x ∷ xs) ys) (sym (innovative_after_outside before x xs outside))
    ]

-- a row in the span of those before it is not innovative
pub innovative-push_inside : (rows : List ℕ) (v : ℕ) → in_span rows v ≡ true → innovative (rows ++ v ∷ []) ≡ innovative rows
innovative-push_inside rows v h =
    innovative_after-append [] rows (v ∷ []) ∙ ap (λ l. innovative rows ++ l) (innovative_after_inside rows v [] h ∙ innovative_after-nil (rows ++ v ∷ [])) ∙ append-nil (innovative rows)

-- a row outside the span of those before it is innovative
pub innovative-push_outside : (rows : List ℕ) (v : ℕ) → in_span rows v ≡ false → innovative (rows ++ v ∷ []) ≡ innovative rows ++ v ∷ []
innovative-push_outside rows v h =
    innovative_after-append [] rows (v ∷ []) ∙ ap (λ l. innovative rows ++ l) (innovative_after_outside rows v [] h ∙ ap (λ l. v ∷ l) (innovative_after-nil (rows ++ v ∷ [])))

pub dimension-push_inside : (rows : List ℕ) (v : ℕ) → in_span rows v ≡ true → dimension (rows ++ v ∷ []) ≡ dimension rows
dimension-push_inside rows v h = ap length (innovative-push_inside rows v h)

pub dimension-push_outside : (rows : List ℕ) (v : ℕ) → in_span rows v ≡ false → dimension (rows ++ v ∷ []) ≡ dimension rows + 1
dimension-push_outside rows v h = ap length (innovative-push_outside rows v h) ∙ length-append (innovative rows) (v ∷ [])

-- ---- a span of dimension d has 2 ^ d members

passing-push_inside : (n : ℕ) (rows : List ℕ) (v : ℕ) → in_span rows v ≡ true → passing n (in_span (rows ++ v ∷ [])) ≡ passing n (in_span rows)
passing-push_inside n rows v h =
    passing_same n _ _ (λ x. same_bool _ _ (λ k. elim (in_span-push_cases rows v x k) [
      | inl old ↦ old
      | inr moved ↦ in_span-xor_back rows x v moved h
    ]) (in_span-push_skip rows v x))

passing-push_outside : (n : ℕ) (rows : List ℕ) (v : ℕ) → v < 2 ^ n → in_span rows v ≡ false → passing n (in_span (rows ++ v ∷ [])) ≡ passing n (in_span rows) + passing n (in_span rows)
passing-push_outside n rows v below h =
    let apart : (x : ℕ) → in_span rows x ≡ true → in_span rows (bit_xor x v) ≡ false = λ x k. false_from_ne_true _ (λ m. both_ways _ h (subst (λ y. in_span rows y ≡ true) (xor_twice_left x v) (in_span-xor rows x (bit_xor x v) k m))) in
    let split : (x : ℕ) → in_span (rows ++ v ∷ []) x ≡ (in_span rows x || in_span rows (bit_xor x v)) = λ x. same_bool _ _ (λ k. elim (in_span-push_cases rows v x k) [
      | inl old ↦ or_left _ _ old
      | inr moved ↦ or_right _ _ moved
    ]) (λ k. elim (or_cases _ _ k) [
      | inl old ↦ in_span-push_skip rows v x old
      | inr moved ↦ in_span-push_use rows v x moved
    ]) in
    passing_same n _ _ split ∙ passing-or n (in_span rows) (λ x. in_span rows (bit_xor x v)) apart ∙ ap (λ c. passing n (in_span rows) + c) (passing-xor n (in_span rows) v below)

doubled_power : (c d : ℕ) → (c + c) * 2 ^ d ≡ c * 2 ^ suc d
doubled_power c d = rw two-pow-succ (omega arith)

passing_after : (n : ℕ) (before rows : List ℕ) → All (λ r. r < 2 ^ n) rows → passing n (in_span (before ++ rows)) ≡ passing n (in_span before) * 2 ^ length (innovative_after before rows)
passing_after n before [] each = rw (append-nil before, innovative_after-nil before) (omega arith)
passing_after n before (r ∷ rows) each =
    let rest = All-tail (λ r. r < 2 ^ n) r rows each in
    let below = All-head (λ r. r < 2 ^ n) r rows each in
    let same : (before ++ r ∷ []) ++ rows ≡ before ++ (r ∷ rows) = append_assoc before (r ∷ []) rows in
    let by_rest = ap (λ l. passing n (in_span l)) (sym same) ∙ passing_after n (before ++ r ∷ []) rows rest in
    let d = length (innovative_after (before ++ r ∷ []) rows) in
    let c = passing n (in_span before) in
    elim (cases_Bool (in_span before r)) [
      | inl inside ↦ by_rest ∙ ap₂ (λ c d. c * 2 ^ d) (passing-push_inside n before r inside) (ap length (sym (innovative_after_inside before r rows inside)))
      | inr outside ↦
          let doubled = doubled_power c d in
          by_rest ∙ ap (λ c. c * 2 ^ d) (passing-push_outside n before r below outside) ∙ doubled ∙ ap (λ l. c * 2 ^ length l) (sym (innovative_after_outside before r rows outside))
    ]

-- a span of rows below 2 ^ n has 2 ^ dimension members, all below 2 ^ n
pub passing-in_span : (n : ℕ) (rows : List ℕ) → All (λ r. r < 2 ^ n) rows → passing n (in_span rows) ≡ 2 ^ dimension rows
unfolding in_span
passing-in_span n rows each =
    passing_after n [] rows each ∙ ap (λ c. c * 2 ^ dimension rows) (passing-zero n) ∙ omega arith

-- ---- the dimension depends on the span alone

lt_power : (r : ℕ) → r < 2 ^ r
lt_power zero = omega arith
lt_power (suc r) = omega (arith, two-pow-succ r, lt_power r)

-- a width that has room for each of the rows
room_for : List ℕ → ℕ
room_for [] = 0
room_for (r ∷ rows) = r + room_for rows

below_room : (rows : List ℕ) (n : ℕ) → room_for rows ≤ n → All (λ r. r < 2 ^ n) rows
unfolding room_for
below_room [] n h = All-nil (λ r. r < 2 ^ n)
below_room (r ∷ rows) n h =
    let fits : r ≤ n = omega arith in
    let below : r < 2 ^ n = omega (arith, lt_power r, pow_mono fits) in
    All-cons (λ r. r < 2 ^ n) r rows below (below_room rows n (omega arith))

le_from_powers : (a b : ℕ) → 2 ^ a ≤ 2 ^ b → a ≤ b
le_from_powers a b h = elim (cases_lt b a) [ inl k ↦ let p = pow-lt k in absurd (omega arith) | inr k ↦ k ]

-- a span inside another has at most its dimension
pub dimension-le_within : (a b : List ℕ) → ((x : ℕ) → in_span a x ≡ true → in_span b x ≡ true) → dimension a ≤ dimension b
dimension-le_within a b h =
    let n = room_for a + room_for b in
    let in_a = passing-in_span n a (below_room a n (omega arith)) in
    let in_b = passing-in_span n b (below_room b n (omega arith)) in
    le_from_powers _ _ (omega (arith, in_a, in_b, passing-le n (in_span a) (in_span b) h))

-- what spans the same has the same dimension
pub dimension-same_span : (a b : List ℕ) → ((x : ℕ) → in_span a x ≡ in_span b x) → dimension a ≡ dimension b
dimension-same_span a b h =
    omega (arith, dimension-le_within a b (λ x k. sym (h x) ∙ k), dimension-le_within b a (λ x k. h x ∙ k))

-- rows below 2 ^ n have dimension n at most
pub dimension-le_width : (n : ℕ) (rows : List ℕ) → All (λ r. r < 2 ^ n) rows → dimension rows ≤ n
dimension-le_width n rows each =
    le_from_powers _ _ (omega (arith, passing-in_span n rows each, passing-le_all n (in_span rows)))

pub length_after_le : (before rows : List ℕ) → length (innovative_after before rows) ≤ length rows
length_after_le before [] = rw (innovative_after-nil before) (omega arith)
length_after_le before (r ∷ rows) =
    let rest = length_after_le (before ++ r ∷ []) rows in
    elim (cases_Bool (in_span before r)) [
      | inl inside ↦ rw (innovative_after_inside before r rows inside) (omega arith)
      | inr outside ↦ rw (innovative_after_outside before r rows outside) (omega arith)
    ]

-- so many rows have at most that dimension
pub dimension-le_length : (rows : List ℕ) → dimension rows ≤ length rows
dimension-le_length rows = length_after_le [] rows

-- a span inside another of no larger dimension is all of it
pub in_span-all_from_dimension : (a b : List ℕ) → ((x : ℕ) → in_span a x ≡ true → in_span b x ≡ true) → dimension b ≤ dimension a → (x : ℕ) → in_span b x ≡ true → in_span a x ≡ true
in_span-all_from_dimension a b h small x k =
    elim (cases_Bool (in_span a x)) [
      | inl inside ↦ inside
      | inr outside ↦
          let more = dimension-push_outside a x outside in
          let still = dimension-le_within (a ++ x ∷ []) b (λ y m. elim (in_span-push_cases a x y m) [
            | inl old ↦ h y old
            | inr moved ↦ in_span-xor_back b y x (h _ moved) k
          ]) in
          absurd (omega arith)
    ]

-- ---- the innovative rows

in_span_again : (before xs : List ℕ) (r : ℕ) → in_span before r ≡ true → (x : ℕ) → in_span ((before ++ r ∷ []) ++ xs) x ≡ in_span (before ++ xs) x
in_span_again before xs r h x = same_bool _ _
    (in_span-append_within (before ++ r ∷ []) before xs xs (λ y k. elim (in_span-push_cases before r y k) [
      | inl old ↦ old
      | inr moved ↦ in_span-xor_back before y r moved h
    ]) (λ y k. k) x)
    (in_span-append_within before (before ++ r ∷ []) xs xs (in_span-push_skip before r) (λ y k. k) x)

in_span_after : (before rows : List ℕ) (x : ℕ) → in_span (before ++ innovative_after before rows) x ≡ in_span (before ++ rows) x
in_span_after before [] x = rw (innovative_after-nil before) refl
in_span_after before (r ∷ rows) x =
    let rest = in_span_after (before ++ r ∷ []) rows x in
    let news = innovative_after (before ++ r ∷ []) rows in
    let same : (before ++ r ∷ []) ++ rows ≡ before ++ (r ∷ rows) = append_assoc before (r ∷ []) rows in
    let joined = rest ∙ ap (λ l. in_span l x) same in
    elim (cases_Bool (in_span before r)) [
      | inl inside ↦ ap (λ l. in_span (before ++ l) x) (innovative_after_inside before r rows inside) ∙ sym (in_span_again before news r inside x) ∙ joined
      | inr outside ↦ ap (λ l. in_span (before ++ l) x) (innovative_after_outside before r rows outside) ∙ ap (λ l. in_span l x) (sym (append_assoc before (r ∷ []) news)) ∙ joined
    ]

-- the innovative rows span what all the rows span
pub in_span_innovative : (rows : List ℕ) (x : ℕ) → in_span (innovative rows) x ≡ in_span rows x
in_span_innovative rows x = in_span_after [] rows x

-- and are independent
pub innovative_is_independent : (rows : List ℕ) → dimension (innovative rows) ≡ length (innovative rows)
innovative_is_independent rows = dimension-same_span (innovative rows) rows (in_span_innovative rows)

All-innovative_after : (P : ℕ → Type 0) (before rows : List ℕ) → All P rows → All P (innovative_after before rows)
All-innovative_after P before [] each = rw (innovative_after-nil before) each
All-innovative_after P before (r ∷ rows) each =
    let rest = All-innovative_after P (before ++ r ∷ []) rows (All-tail P r rows each) in
    elim (cases_Bool (in_span before r)) [
      | inl inside ↦ rw (innovative_after_inside before r rows inside) rest
      | inr outside ↦ rw (innovative_after_outside before r rows outside) (All-cons P r _ (All-head P r rows each) rest)
    ]

-- what holds of each row holds of each innovative row
pub All-innovative : (P : ℕ → Type 0) (rows : List ℕ) → All P rows → All P (innovative rows)
All-innovative P rows each = All-innovative_after P [] rows each
