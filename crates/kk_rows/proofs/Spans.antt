-- What is in a span.
use Rattle.std.proofs.Common.{◌≡◌, ℕ, Bool, true, false, ◌⊎◌, List, [], ◌∷◌, ◌++◌, refl, sym, ap, ◌∙◌, subst, inl, inr, bit_xor, get_or, ◌<◌, ◌^◌}
use Rattle.std.specs.Prelude.{All, Contains}
use Rattle.std.specs.List.Sorted.{IsPermutation}
use Rattle.std.proofs.lemmas.List.Sorted.{Contains-permutation, IsPermutation-sym}
use Rattle.std.specs.Int.Bits.{xor_assoc, xor_self, xor_zero_l, xor_zero_r, xor_lt}
use Rattle.std.proofs.lemmas.Nat.{xor_comm, pow_pos}
use Rattle.std.proofs.lemmas.Bool.{or_cases, or_left, or_right, eqb-true, false_from_ne_true, false≢true}
use Rattle.std.proofs.lemmas.List.Elements.{All-nil, All-cons, All-head, All-tail, All-weaker, All-contains, Contains-get_or}
use Rattle.kk_rows.specs.Span.{in_span, HaveSameSpan}
use Rattle.kk_rows.proofs.Sums.{xor_twice, xor_swap, xor_shared}

-- two tests that pass together are equal
pub same_bool : (a b : Bool) → (a ≡ true → b ≡ true) → (b ≡ true → a ≡ true) → a ≡ b
same_bool true b f g = sym (f refl)
same_bool false b f g = sym (false_from_ne_true b (λ h. false≢true (g h)))

pub in_span_skip : (r : ℕ) (rows : List ℕ) (v : ℕ) → in_span rows v ≡ true → in_span (r ∷ rows) v ≡ true
unfolding in_span
in_span_skip r rows v h = or_left _ _ h

pub in_span_use : (r : ℕ) (rows : List ℕ) (v : ℕ) → in_span rows (bit_xor v r) ≡ true → in_span (r ∷ rows) v ≡ true
unfolding in_span
in_span_use r rows v h = or_right _ _ h

pub in_span_cases : (r : ℕ) (rows : List ℕ) (v : ℕ) → in_span (r ∷ rows) v ≡ true → (in_span rows v ≡ true) ⊎ (in_span rows (bit_xor v r) ≡ true)
unfolding in_span
in_span_cases r rows v h = or_cases _ _ h

-- no row spans 0 alone
pub in_span-nil : (v : ℕ) → in_span [] v ≡ true → v ≡ 0
unfolding in_span
in_span-nil v h = eqb-true v 0 h

pub in_span-zero : (rows : List ℕ) → in_span rows 0 ≡ true
unfolding in_span
in_span-zero [] = refl
in_span-zero (r ∷ rows) = in_span_skip r rows 0 (in_span-zero rows)

-- the span is the least set that has 0 and the rows, and with two members their sum
pub in_span-least : (P : ℕ → Type 0) → P 0 → ((a b : ℕ) → P a → P b → P (bit_xor a b)) → (rows : List ℕ) → All P rows → (v : ℕ) → in_span rows v ≡ true → P v
in_span-least P zero_in sum_in [] each v h = subst P (sym (in_span-nil v h)) zero_in
in_span-least P zero_in sum_in (r ∷ rows) each v h =
    let rest = All-tail P r rows each in
    elim (in_span_cases r rows v h) [
      | inl skipped ↦ in_span-least P zero_in sum_in rows rest v skipped
      | inr used ↦ subst P (xor_twice v r) (sum_in (bit_xor v r) r (in_span-least P zero_in sum_in rows rest (bit_xor v r) used) (All-head P r rows each))
    ]

-- the span is closed under sums
pub in_span-xor : (rows : List ℕ) (a b : ℕ) → in_span rows a ≡ true → in_span rows b ≡ true → in_span rows (bit_xor a b) ≡ true
in_span-xor [] a b ha hb =
    let P : ℕ → Type 0 = λ x. in_span [] x ≡ true in
    subst P (sym (ap (λ x. bit_xor x b) (in_span-nil a ha) ∙ xor_zero_l b)) hb
in_span-xor (r ∷ rows) a b ha hb =
    let P : ℕ → Type 0 = λ x. in_span rows x ≡ true in
    elim (in_span_cases r rows a ha) [
      | inl ka ↦ elim (in_span_cases r rows b hb) [
        | inl kb ↦ in_span_skip r rows _ (in_span-xor rows a b ka kb)
        | inr kb ↦ in_span_use r rows _ (subst P (sym (xor_assoc a b r)) (in_span-xor rows a (bit_xor b r) ka kb))
      ]
      | inr ka ↦ elim (in_span_cases r rows b hb) [
        | inl kb ↦ in_span_use r rows _ (subst P (xor_swap a r b) (in_span-xor rows (bit_xor a r) b ka kb))
        | inr kb ↦ in_span_skip r rows _ (subst P (xor_shared a b r) (in_span-xor rows (bit_xor a r) (bit_xor b r) ka kb))
      ]
    ]

-- a member changes nothing by its addition
pub in_span-xor_back : (rows : List ℕ) (a b : ℕ) → in_span rows (bit_xor a b) ≡ true → in_span rows b ≡ true → in_span rows a ≡ true
in_span-xor_back rows a b h k =
    let P : ℕ → Type 0 = λ x. in_span rows x ≡ true in subst P (xor_twice a b) (in_span-xor rows (bit_xor a b) b h k)

pub in_span-head : (r : ℕ) (rows : List ℕ) → in_span (r ∷ rows) r ≡ true
in_span-head r rows =
    let P : ℕ → Type 0 = λ x. in_span rows x ≡ true in
    in_span_use r rows r (subst P (sym (xor_self r)) (in_span-zero rows))

-- each row is in the span
pub in_span-each : (rows : List ℕ) → All (λ r. in_span rows r ≡ true) rows
in_span-each [] = All-nil (λ r. in_span [] r ≡ true)
in_span-each (r ∷ rows) =
    All-cons (λ x. in_span (r ∷ rows) x ≡ true) r rows (in_span-head r rows)
    (All-weaker (λ x. in_span rows x ≡ true) (λ x. in_span (r ∷ rows) x ≡ true) (in_span_skip r rows) rows (in_span-each rows))

-- rows that are members of a span span no more than it
pub in_span-within : (a b : List ℕ) → All (λ r. in_span b r ≡ true) a → (v : ℕ) → in_span a v ≡ true → in_span b v ≡ true
in_span-within a b each v h =
    in_span-least (λ x. in_span b x ≡ true) (in_span-zero b) (in_span-xor b) a each v h

-- rows below 2 ^ n span rows below 2 ^ n
pub in_span-lt : (n : ℕ) (rows : List ℕ) → All (λ r. r < 2 ^ n) rows → (v : ℕ) → in_span rows v ≡ true → v < 2 ^ n
in_span-lt n rows each v h = in_span-least (λ x. x < 2 ^ n) (pow_pos n) (λ a b. xor_lt n a b) rows each v h

-- ---- lists one after another

pub in_span-append_left : (a b : List ℕ) (v : ℕ) → in_span a v ≡ true → in_span (a ++ b) v ≡ true
in_span-append_left [] b v h =
    let P : ℕ → Type 0 = λ x. in_span b x ≡ true in subst P (sym (in_span-nil v h)) (in_span-zero b)
in_span-append_left (r ∷ a) b v h =
    elim (in_span_cases r a v h) [
      | inl skipped ↦ in_span_skip r (a ++ b) v (in_span-append_left a b v skipped)
      | inr used ↦ in_span_use r (a ++ b) v (in_span-append_left a b (bit_xor v r) used)
    ]

pub in_span-append_right : (a b : List ℕ) (v : ℕ) → in_span b v ≡ true → in_span (a ++ b) v ≡ true
in_span-append_right [] b v h = h
in_span-append_right (r ∷ a) b v h = in_span_skip r (a ++ b) v (in_span-append_right a b v h)

-- a member of a sum of spans is the sum of a member of each
pub in_span-append_parts : (a b : List ℕ) (v : ℕ) → in_span (a ++ b) v ≡ true → (x : ℕ) × (in_span a x ≡ true) × (in_span b (bit_xor v x) ≡ true)
in_span-append_parts [] b v h =
    let P : ℕ → Type 0 = λ x. in_span b x ≡ true in (0, in_span-zero [], subst P (sym (xor_zero_r v)) h)
in_span-append_parts (r ∷ a) b v h =
    let P : ℕ → Type 0 = λ x. in_span b x ≡ true in
    let Q : ℕ → Type 0 = λ x. in_span a x ≡ true in
    elim (in_span_cases r (a ++ b) v h) [
      | inl skipped ↦ let w = in_span-append_parts a b v skipped in (w.0, in_span_skip r a w.0 w.1, w.2)
      | inr used ↦ let w = in_span-append_parts a b (bit_xor v r) used in (
        bit_xor w.0 r,
        in_span_use r a (bit_xor w.0 r) (subst Q (sym (xor_twice w.0 r)) w.1),
        subst P (xor_assoc v r w.0 ∙ ap (bit_xor v) (xor_comm r w.0)) w.2,
      )
    ]

-- the span of one more row
pub in_span-push_cases : (rows : List ℕ) (v x : ℕ) → in_span (rows ++ v ∷ []) x ≡ true → (in_span rows x ≡ true) ⊎ (in_span rows (bit_xor x v) ≡ true)
in_span-push_cases [] v x h = in_span_cases v [] x h
in_span-push_cases (r ∷ rows) v x h =
    let P : ℕ → Type 0 = λ y. in_span rows y ≡ true in
    elim (in_span_cases r (rows ++ v ∷ []) x h) [
      | inl skipped ↦ elim (in_span-push_cases rows v x skipped) [
        | inl k ↦ inl (in_span_skip r rows x k)
        | inr k ↦ inr (in_span_skip r rows (bit_xor x v) k)
      ]
      | inr used ↦ elim (in_span-push_cases rows v (bit_xor x r) used) [
        | inl k ↦ inl (in_span_use r rows x k)
        | inr k ↦ inr (in_span_use r rows (bit_xor x v) (subst P (xor_swap x r v) k))
      ]
    ]

pub in_span-push_skip : (rows : List ℕ) (v x : ℕ) → in_span rows x ≡ true → in_span (rows ++ v ∷ []) x ≡ true
in_span-push_skip rows v x h = in_span-append_left rows (v ∷ []) x h

pub in_span-push_itself : (rows : List ℕ) (v : ℕ) → in_span (rows ++ v ∷ []) v ≡ true
in_span-push_itself rows v = in_span-append_right rows (v ∷ []) v (in_span-head v [])

pub in_span-push_use : (rows : List ℕ) (v x : ℕ) → in_span rows (bit_xor x v) ≡ true → in_span (rows ++ v ∷ []) x ≡ true
in_span-push_use rows v x h =
    in_span-xor_back (rows ++ v ∷ []) x v (in_span-push_skip rows v (bit_xor x v) h) (in_span-push_itself rows v)

-- a sum of spans inside a third
pub in_span-append_least : (a b c : List ℕ) → ((x : ℕ) → in_span a x ≡ true → in_span c x ≡ true) → ((x : ℕ) → in_span b x ≡ true → in_span c x ≡ true) → (x : ℕ) → in_span (a ++ b) x ≡ true → in_span c x ≡ true
in_span-append_least a b c in_a in_b x h =
    let w = in_span-append_parts a b x h in
    in_span-xor_back c x w.0 (in_b (bit_xor x w.0) w.2) (in_a w.0 w.1)

-- a sum of spans inside a sum of larger spans
pub in_span-append_within : (a a' b b' : List ℕ) → ((x : ℕ) → in_span a x ≡ true → in_span a' x ≡ true) → ((x : ℕ) → in_span b x ≡ true → in_span b' x ≡ true) → (x : ℕ) → in_span (a ++ b) x ≡ true → in_span (a' ++ b') x ≡ true
in_span-append_within a a' b b' in_a in_b =
    in_span-append_least a b (a' ++ b') (λ x k. in_span-append_left a' b' x (in_a x k)) (λ x k. in_span-append_right a' b' x (in_b x k))

-- the span of a sum depends on the spans alone
pub in_span-append_same : (a a' b b' : List ℕ) → ((x : ℕ) → in_span a x ≡ in_span a' x) → ((x : ℕ) → in_span b x ≡ in_span b' x) → (x : ℕ) → in_span (a ++ b) x ≡ in_span (a' ++ b') x
in_span-append_same a a' b b' same_a same_b x = same_bool _ _
    (in_span-append_within a a' b b' (λ y k. sym (same_a y) ∙ k) (λ y k. sym (same_b y) ∙ k) x)
    (in_span-append_within a' a b' b (λ y k. same_a y ∙ k) (λ y k. same_b y ∙ k) x)

-- one more row at lists of the same span
pub in_span-push_same : (a b : List ℕ) → ((x : ℕ) → in_span a x ≡ in_span b x) → (v x : ℕ) → in_span (a ++ v ∷ []) x ≡ in_span (b ++ v ∷ []) x
in_span-push_same a b same v x = in_span-append_same a b (v ∷ []) (v ∷ []) same (λ y. refl) x

-- ---- the order of the rows, and how often each stands there, change nothing

pub in_span-contained : (a b : List ℕ) → All (Contains b) a → (x : ℕ) → in_span a x ≡ true → in_span b x ≡ true
in_span-contained a b each =
    in_span-within a b (All-weaker (Contains b) (λ r. in_span b r ≡ true) (λ r k. All-contains (λ r. in_span b r ≡ true) b r (in_span-each b) k) a each)

pub in_span-same_elements : (a b : List ℕ) → All (Contains b) a → All (Contains a) b → (x : ℕ) → in_span a x ≡ in_span b x
in_span-same_elements a b there back x = same_bool _ _ (in_span-contained a b there x) (in_span-contained b a back x)

pub in_span-permuted : (a b : List ℕ) → IsPermutation a b → (x : ℕ) → in_span a x ≡ in_span b x
in_span-permuted a b there =
    let back = IsPermutation-sym a b there in
    in_span-same_elements a b (λ k d lt. Contains-permutation a b (get_or a k d) there (Contains-get_or a k d lt)) (λ k d lt. Contains-permutation b a (get_or b k d) back (Contains-get_or b k d lt))

pub in_span-swapped : (a b : List ℕ) (x : ℕ) → in_span (a ++ b) x ≡ in_span (b ++ a) x
in_span-swapped a b x = same_bool _ _
    (in_span-append_least a b (b ++ a) (in_span-append_right b a) (in_span-append_left b a) x)
    (in_span-append_least b a (a ++ b) (in_span-append_right a b) (in_span-append_left a b) x)

-- ---- lists of the same span

pub same_span_members : (a b : List ℕ) → HaveSameSpan a b → (x : ℕ) → in_span a x ≡ in_span b x
same_span_members a b h x = same_bool _ _ (in_span-within a b h.left_in_right x) (in_span-within b a h.right_in_left x)

pub HaveSameSpan-from_members : (a b : List ℕ) → ((x : ℕ) → in_span a x ≡ in_span b x) → HaveSameSpan a b
HaveSameSpan-from_members a b same = record {
  left_in_right = All-weaker (λ r. in_span a r ≡ true) (λ r. in_span b r ≡ true) (λ r k. sym (same r) ∙ k) a (in_span-each a);
  right_in_left = All-weaker (λ r. in_span b r ≡ true) (λ r. in_span a r ≡ true) (λ r k. same r ∙ k) b (in_span-each b);
}

-- a member spans nothing new
pub in_span-push_inside : (rows : List ℕ) (v : ℕ) → in_span rows v ≡ true → (x : ℕ) → in_span (rows ++ v ∷ []) x ≡ in_span rows x
in_span-push_inside rows v h x = same_bool _ _ (λ k. elim (in_span-push_cases rows v x k) [
  | inl old ↦ old
  | inr moved ↦ in_span-xor_back rows x v moved h
]) (in_span-push_skip rows v x)

push_shifted : (rows : List ℕ) (v w : ℕ) → in_span rows (bit_xor v w) ≡ true → (x : ℕ) → in_span (rows ++ w ∷ []) x ≡ true → in_span (rows ++ v ∷ []) x ≡ true
push_shifted rows v w h x k = elim (in_span-push_cases rows w x k) [
  | inl old ↦ in_span-push_skip rows v x old
  | inr moved ↦ in_span-push_use rows v x (subst (λ y. in_span rows y ≡ true) (xor_shared x v w) (in_span-xor rows (bit_xor x w) (bit_xor v w) moved h))
]

-- two rows that differ by a member add the same to the span
pub in_span-push_shifted : (rows : List ℕ) (v w : ℕ) → in_span rows (bit_xor v w) ≡ true → (x : ℕ) → in_span (rows ++ v ∷ []) x ≡ in_span (rows ++ w ∷ []) x
in_span-push_shifted rows v w h x =
    let back = subst (λ y. in_span rows y ≡ true) (xor_comm v w) h in
    same_bool _ _ (push_shifted rows w v back x) (push_shifted rows v w h x)

-- ---- rows inserted one after another

-- a space that spans L spans L and v after an insert of v
pub in_span-inserted : (L old new : List ℕ) (v : ℕ) → ((x : ℕ) → in_span old x ≡ in_span L x) → ((x : ℕ) → in_span new x ≡ in_span (old ++ v ∷ []) x) → (x : ℕ) → in_span new x ≡ in_span (L ++ v ∷ []) x
in_span-inserted L old new v same step x = step x ∙ in_span-push_same old L same v x

pub in_span-moved : (a b : List ℕ) (v x : ℕ) → in_span ((a ++ v ∷ []) ++ b) x ≡ in_span ((a ++ b) ++ v ∷ []) x
in_span-moved a b v x = same_bool _ _
    (in_span-append_least (a ++ v ∷ []) b ((a ++ b) ++ v ∷ []) (in_span-append_within a (a ++ b) (v ∷ []) (v ∷ []) (in_span-append_left a b) (λ y k. k)) (λ y k. in_span-push_skip (a ++ b) v y (in_span-append_right a b y k)) x)
    (in_span-append_least (a ++ b) (v ∷ []) ((a ++ v ∷ []) ++ b) (in_span-append_within a (a ++ v ∷ []) b b (in_span-push_skip a v) (λ y k. k)) (λ y k. in_span-append_left (a ++ v ∷ []) b y (in_span-append_right a (v ∷ []) y k)) x)
