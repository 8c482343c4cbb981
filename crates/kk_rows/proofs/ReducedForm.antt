-- A span has one reduced row echelon form.
use Rattle.std.proofs.Common.{◌≡◌, ℕ, ◌+◌, ◌<◌, ◌≤◌, ◌^◌, true, List, [], ◌∷◌, get_or, refl, sym, ap, ap₂, ◌∙◌, subst, inl, inr, bit_xor, arith}
use Rattle.std.specs.Int.{bit_at}
use Rattle.std.specs.Int.Bits.{xor_zero_l}
use Rattle.std.proofs.Math.Pow.{pow_mono}
use Rattle.std.proofs.lemmas.Nat.{xor_comm}
use Rattle.std.proofs.lemmas.Bool.{cases_lt}
use Rattle.std.proofs.lemmas.List.Elements.{All-cons}
use Rattle.kk_rows.specs.Span.{in_span}
use Rattle.kk_rows.specs.Echelon.{IsLeadingBit, IsClear, IsReduced}
use Rattle.kk_rows.specs.Laws.{ReducedFormIsUnique}
use Rattle.kk_rows.proofs.Sums.{xor_twice}
use Rattle.kk_rows.proofs.Spans.{same_bool, same_span_members, in_span-nil, in_span_skip, in_span_cases, in_span-head, in_span-xor, in_span-lt}
use Rattle.kk_rows.proofs.Leading.{bit_one_zero, bit_one_one, zero_is_not_one, power_le, leading_bit, lt_from_leads}
use Rattle.kk_rows.proofs.Reduced.{Reduces, Reduces-from, Reduces-pos, IsClearAt-xor, in_span-clear, zero_from_clear}

-- the first row's leading bit is the highest of the span
span_below : (r p : ℕ) (rows : List ℕ) → Reduces (r ∷ rows) → IsLeadingBit r p → (x : ℕ) → in_span (r ∷ rows) x ≡ true → x < 2 ^ (p + 1)
span_below r p rows h lead x inside =
    let pos = Reduces-pos rows h.2 in
    let each = All-cons (λ x. x < 2 ^ (p + 1)) r rows lead.none_above (λ k d below. let lower = lt_from_leads r (get_or rows k d) h.0 (pos k d below) (h.1 k d below).0 in omega (arith, lead.none_above)) in
    in_span-lt (p + 1) (r ∷ rows) each x inside

lead_le : (r s p q : ℕ) → IsLeadingBit s q → s < 2 ^ (p + 1) → q ≤ p
lead_le r s p q lead small = elim (cases_lt p q) [
  | inl above ↦
      let le : p + 1 ≤ q = omega arith in
      let m : 2 ^ (p + 1) ≤ 2 ^ q = pow_mono le in
      absurd (omega (arith, m, power_le s q lead.is_one))
  | inr k ↦ k
]

-- a member whose bit at the first row's leading bit is 0 does without the first row
member_below : (s p : ℕ) (rows : List ℕ) → Reduces (s ∷ rows) → IsLeadingBit s p → (x : ℕ) → bit_at x p ≡ 0 → in_span (s ∷ rows) x ≡ true → in_span rows x ≡ true
member_below s p rows h lead x clear inside = elim (in_span_cases s rows x inside) [
  | inl skipped ↦ skipped
  | inr used ↦
      let low = in_span-clear s rows (λ k d below. (h.1 k d below).2) (bit_xor x s) used p lead in
      let high = ap (λ y. bit_at y p) (xor_comm x s) ∙ bit_one_zero s x p lead.is_one clear in
      absurd (zero_is_not_one _ low high)
]

zero_xor : (a b : ℕ) → bit_xor a b ≡ 0 → a ≡ b
zero_xor a b h = sym (xor_twice a b) ∙ ap (λ x. bit_xor x b) h ∙ xor_zero_l b

reduced_unique : (a b : List ℕ) → Reduces a → Reduces b → ((x : ℕ) → in_span a x ≡ in_span b x) → a ≡ b
reduced_unique [] [] ha hb same = refl
reduced_unique [] (s ∷ b) ha hb same =
    let zero = in_span-nil s (same s ∙ in_span-head s b) in
    let pos = hb.0 in
    absurd (omega arith)
reduced_unique (r ∷ a) [] ha hb same =
    let zero = in_span-nil r (sym (same r) ∙ in_span-head r a) in
    let pos = ha.0 in
    absurd (omega arith)
reduced_unique (r ∷ a) (s ∷ b) ha hb same =
    let of_r = leading_bit r ha.0 in
    let of_s = leading_bit s hb.0 in
    let p = of_r.0 in
    let s_in_a = same s ∙ in_span-head s b in
    let r_in_b = sym (same r) ∙ in_span-head r a in
    let le = lead_le r s p of_s.0 of_s.1 (span_below r p a ha of_r.1 s s_in_a) in
    let ge = lead_le s r of_s.0 p of_r.1 (span_below s of_s.0 b hb of_s.1 r r_in_b) in
    let equal : of_s.0 ≡ p = omega arith in
    let lead_s : IsLeadingBit s p = subst (λ q. IsLeadingBit s q) equal of_s.1 in
    let there = λ (x : ℕ) (k : in_span a x ≡ true). member_below s p b hb lead_s x (in_span-clear r a (λ k d below. (ha.1 k d below).2) x k p of_r.1) (sym (same x) ∙ in_span_skip r a x k) in
    let back = λ (x : ℕ) (k : in_span b x ≡ true). member_below r p a ha of_r.1 x (in_span-clear s b (λ k d below. (hb.1 k d below).2) x k p lead_s) (same x ∙ in_span_skip s b x k) in
    let tails = reduced_unique a b ha.2 hb.2 (λ x. same_bool _ _ (there x) (back x)) in
    let clear_s : IsClear a s = subst (λ l. IsClear l s) (sym tails) (λ k d below. (hb.1 k d below).1) in
    let clear : IsClear a (bit_xor r s) = λ k d below. IsClearAt-xor (get_or a k d) r s (ha.1 k d below).1 (clear_s k d below) in
    let low = bit_one_one r s p of_r.1.is_one lead_s.is_one in
    let inside = member_below r p a ha of_r.1 (bit_xor r s) low (in_span-xor (r ∷ a) r s (in_span-head r a) s_in_a) in
    ap₂ (λ x l. x ∷ l) (zero_xor r s (zero_from_clear a ha.2 (bit_xor r s) inside clear)) tails

pub reduced_form_same : (a b : List ℕ) → IsReduced a → IsReduced b → ((x : ℕ) → in_span a x ≡ in_span b x) → a ≡ b
reduced_form_same a b ha hb same = reduced_unique a b (Reduces-from a ha) (Reduces-from b hb) same

pub reduced_form_is_unique : ReducedFormIsUnique
reduced_form_is_unique us vs hu hv same = reduced_form_same us vs hu hv (same_span_members us vs same)
