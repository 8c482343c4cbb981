-- The search through all messages finds the one that decodes a space, and no other near it.
use Rattle.std.proofs.Common.{◌≡◌, ◌-◌, ℕ, zero, suc, Bool, true, false, cond, ◌+◌, ◌*◌, ◌/◌, ◌%◌, ◌^◌, ◌<◌, List, [], ◌∷◌, length, get_or, refl, sym, ap, ap₂, ◌∙◌, subst, inl, inr, arith}
use Rattle.std.specs.Prelude.{All, Option, Some, None}
use Rattle.std.specs.List.{find, range_with_len}
use Rattle.std.proofs.Math.Nat.{mul_comm, mul_assoc, add_assoc, add-mul}
use Rattle.std.proofs.lemmas.Bool.{cases_Bool, le-leb, leb-true, false_from_ne_true}
use Rattle.std.proofs.lemmas.Nat.{pow-add, pow_pos, mul-add-lt, div-mul-add, mod-mul-add}
use Rattle.std.proofs.lemmas.List.FromFn.{length-map-range_with_len, get_or-map-range_with_len}
use Rattle.std.proofs.lemmas.List.Elements.{All-nil, All-cons, All-head, All-tail, All-map, All-from_get_or}
use Rattle.kk_rows.specs.Distance.{distance}
use Rattle.kk_code.specs.Codeword.{Parameters, IsCode, IsMessage, codeword}
use Rattle.kk_code.specs.Decoding.{Decodes, message_at, messages, within_radius, answer}
use Rattle.kk_code.specs.Laws.{AnswerIsTheMessage, OneBeyondIsNeverWrong}
use Rattle.kk_code.proofs.CodeLaws.{decoding_is_unique, near_is_same}

-- ---- the number of a message

number_of : ℕ → List ℕ → ℕ
number_of m [] = 0
number_of m (s ∷ u) = s * 2 ^ (m * length u) + number_of m u

power_more : (m n : ℕ) → 2 ^ m * 2 ^ (m * n) ≡ 2 ^ (m * suc n)
power_more m n = let e : m + m * n ≡ m * suc n = omega arith in sym (pow-add 2 m (m * n)) ∙ ap (λ k. 2 ^ k) e

number_below : (m : ℕ) (u : List ℕ) → All (λ s. s < 2 ^ m) u → number_of m u < 2 ^ (m * length u)
unfolding number_of
number_below m [] each = pow_pos (m * 0)
number_below m (s ∷ u) each =
    let P : ℕ → Type 0 = λ s. s < 2 ^ m in
    let n = length u in
    let rest = number_below m u (All-tail P s u each) in
    let h : s * 2 ^ (m * n) + number_of m u < 2 ^ (m * n) * 2 ^ m = mul-add-lt s (2 ^ (m * n)) (number_of m u) (2 ^ m) (All-head P s u each) rest in
    subst (λ k. s * 2 ^ (m * n) + number_of m u < k) (mul_comm (2 ^ (m * n)) (2 ^ m) ∙ power_more m n) h

digits_of : (m : ℕ) (u : List ℕ) (hi : ℕ) → All (λ s. s < 2 ^ m) u → message_at m (length u) (hi * 2 ^ (m * length u) + number_of m u) ≡ u
unfolding message_at number_of
digits_of m [] hi each = refl
digits_of m (s ∷ u) hi each =
    let P : ℕ → Type 0 = λ s. s < 2 ^ m in
    let n = length u in
    let w = 2 ^ (m * n) in
    let rest = number_of m u in
    let below = number_below m u (All-tail P s u each) in
    let shift : hi * 2 ^ (m * suc n) ≡ hi * 2 ^ m * w = ap (λ k. hi * k) (sym (power_more m n)) ∙ sym (mul_assoc hi (2 ^ m) w) in
    let whole : hi * 2 ^ (m * suc n) + (s * w + rest) ≡ (hi * 2 ^ m + s) * w + rest =
    ap (λ k. k + (s * w + rest)) shift ∙ regroup (hi * 2 ^ m) s w rest in
    ap (λ k. message_at m (suc n) k) whole
    ∙ ap₂ ◌∷◌ (ap (λ k. k % 2 ^ m) (div-mul-add (hi * 2 ^ m + s) w rest below) ∙ mod-mul-add hi (2 ^ m) s (All-head P s u each))
    (digits_of m u (hi * 2 ^ m + s) (All-tail P s u each))
  where
    regroup : (a s w r : ℕ) → a * w + (s * w + r) ≡ (a + s) * w + r
    regroup a s w r = sym (ap (λ k. k + r) (add-mul a s w) ∙ add_assoc (a * w) (s * w) r)

-- ---- the first that passes

module _ {X : Type 0} (p : X → Bool) where
  find_yes : (x : X) (xs : List X) → p x ≡ true → find p (x ∷ xs) ≡ Some x
  find_yes x xs h = ap (λ b. cond b (Some x) (find p xs)) h

  find_not : (x : X) (xs : List X) → p x ≡ false → find p (x ∷ xs) ≡ find p xs
  find_not x xs h = ap (λ b. cond b (Some x) (find p xs)) h

  -- where one member alone passes, it is found
  find_one : (u : X) (xs : List X) → All (λ x. p x ≡ true → x ≡ u) xs → (i : ℕ) (d : X) → i < length xs → get_or xs i d ≡ u → p u ≡ true → find p xs ≡ Some u
  find_one u [] each i d less at passes = absurd (omega arith)
  find_one u (x ∷ xs) each zero d less at passes = find_yes x xs (ap p at ∙ passes) ∙ ap Some at
  find_one u (x ∷ xs) each (suc i) d less at passes =
      let P : X → Type 0 = λ x. p x ≡ true → x ≡ u in
      let later = find_one u xs (All-tail P x xs each) i d (omega arith) at passes in
      elim (cases_Bool (p x)) [
        | inl here ↦ find_yes x xs here ∙ ap Some (All-head P x xs each here)
        | inr over ↦ find_not x xs over ∙ later
      ]

  find_none : (xs : List X) → All (λ x. p x ≡ false) xs → find p xs ≡ None
  find_none [] each = refl
  find_none (x ∷ xs) each = find_not x xs (All-head (λ x. p x ≡ false) x xs each) ∙ find_none xs (All-tail (λ x. p x ≡ false) x xs each)

  same_of_some : (u v : X) → Some u ≡ Some v → u ≡ v
  same_of_some u v e = ap (λ (o : Option X). elim o [ None ↦ u | Some x ↦ x ]) e

  -- what is found passes, and is one of those that are searched
  find_found : (P : X → Type 0) (u : X) (xs : List X) → All (λ x. p x ≡ true → P x) xs → find p xs ≡ Some u → P u
  find_found P u [] each found = absurd (let e : None ≡ Some u = found in cc)
  find_found P u (x ∷ xs) each found =
      let Q : X → Type 0 = λ x. p x ≡ true → P x in
      elim (cases_Bool (p x)) [
        | inl here ↦ subst P (same_of_some x u (sym (find_yes x xs here) ∙ found)) (All-head Q x xs each here)
        | inr over ↦ find_found P u xs (All-tail Q x xs each) (sym (find_not x xs over) ∙ found)
      ]

-- ---- the answer

length-message_at : (m k n : ℕ) → length (message_at m k n) ≡ k
unfolding message_at
length-message_at m zero n = refl
length-message_at m (suc k) n = ap suc (length-message_at m k n)

All-message_at : (m k n : ℕ) → All (λ s. s < 2 ^ m) (message_at m k n)
unfolding message_at
All-message_at m zero n = All-nil (λ s. s < 2 ^ m)
All-message_at m (suc k) n =
    let some = pow_pos m in
    All-cons (λ s. s < 2 ^ m) (n / 2 ^ (m * k) % 2 ^ m) (message_at m k n) (omega arith) (All-message_at m k n)

is_message : (p : Parameters) (n : ℕ) → IsMessage p (message_at p.field.degree p.k n)
is_message p n = record { len = length-message_at p.field.degree p.k n; symbols = All-message_at p.field.degree p.k n }

decodes : (p : Parameters) (rows : List ℕ) (n : ℕ) → within_radius p rows (message_at p.field.degree p.k n) ≡ true → Decodes p rows (message_at p.field.degree p.k n)
unfolding within_radius
decodes p rows n passes = record { message = is_message p n; within = leb-true _ _ passes }

passes_where : (p : Parameters) (rows u : List ℕ) → Decodes p rows u → within_radius p rows u ≡ true
unfolding within_radius
passes_where p rows u d = le-leb _ _ d.within

each_message : (P : List ℕ → Type 0) (p : Parameters) → ((n : ℕ) → P (message_at p.field.degree p.k n)) → All P (messages p)
each_message P p each =
    let numbers = range_with_len 0 (2 ^ (p.field.degree * p.k)) in
    All-map P (message_at p.field.degree p.k) numbers (All-from_get_or (λ n. P (message_at p.field.degree p.k n)) numbers 0 (λ i less. each (get_or numbers i 0)))

pub answer-of_message : (p : Parameters) → IsCode p → (rows u : List ℕ) → Decodes p rows u → answer p rows ≡ Some u
unfolding answer
answer-of_message p code rows u d =
    let m = p.field.degree in
    let total = 2 ^ (m * p.k) in
    let n = number_of m u in
    let below : n < total = subst (λ k. n < 2 ^ (m * k)) d.message.len (number_below m u d.message.symbols) in
    let plain : 0 * 2 ^ (m * length u) + n ≡ n = omega arith in
    let digits : message_at m p.k n ≡ u =
    sym (ap (λ k. message_at m k n) d.message.len) ∙ sym (ap (message_at m (length u)) plain) ∙ digits_of m u 0 d.message.symbols in
    find_one (within_radius p rows) u (messages p)
    (each_message (λ v. within_radius p rows v ≡ true → v ≡ u) p (λ n passes. decoding_is_unique p code rows (message_at m p.k n) u (decodes p rows n passes) d))
    n [] (omega (arith, below, length-map-range_with_len (message_at m p.k) 0 total))
    (get_or-map-range_with_len (message_at m p.k) 0 total n n [] below (omega arith) ∙ digits) (passes_where p rows u d)

pub answer-of_none : (p : Parameters) (rows : List ℕ) → ((u : List ℕ) → Decodes p rows u → ⊥) → answer p rows ≡ None
unfolding answer
answer-of_none p rows none =
    find_none (within_radius p rows) (messages p)
    (each_message (λ v. within_radius p rows v ≡ false) p (λ n. false_from_ne_true _ (λ passes. none (message_at p.field.degree p.k n) (decodes p rows n passes))))

answer-decodes : (p : Parameters) (rows u : List ℕ) → answer p rows ≡ Some u → Decodes p rows u
unfolding answer
answer-decodes p rows u found =
    find_found (within_radius p rows) (Decodes p rows) u (messages p)
    (each_message (λ v. within_radius p rows v ≡ true → Decodes p rows v) p (decodes p rows)) found

pub answer_is_the_message : AnswerIsTheMessage
answer_is_the_message = record {
  some = λ p code rows u. (answer-decodes p rows u, answer-of_message p code rows u);
  none = λ p code rows. (
    λ none u d. let e : None ≡ Some u = sym none ∙ answer-of_message p code rows u d in absurd cc,
    answer-of_none p rows,
  );
}

pub one_beyond_is_never_wrong : OneBeyondIsNeverWrong
one_beyond_is_never_wrong = record {
  same = λ p code rows u v message near found. near_is_same p code rows u v message near (answer-decodes p rows v found);
  none = λ p code rows u message at. answer-of_none p rows (λ v d. beyond p code rows u v message at d (near_is_same p code rows u v message (omega (arith, at)) d));
}
  where
    -- a message at distance l - k + 1 doesn't decode the space
    beyond : (p : Parameters) → IsCode p → (rows u v : List ℕ) → IsMessage p u → distance (codeword p u) rows ≡ p.l - p.k + 1
        → Decodes p rows v → u ≡ v → ⊥
    beyond p code rows u v message at d same = omega (arith, at, d.within, ap (λ w. distance (codeword p w) rows) same)
