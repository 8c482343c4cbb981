-- The leading bits of the rows of a space, in one word.
use Rattle.std.proofs.Common.{◌≡◌, ℕ, add-one, ◌+◌, ◌*◌, ◌%◌, ◌^◌, ◌<◌, ◌≤◌, List, [], ◌∷◌, fold, min, max, inl, inr, refl, sym, ap, ◌∙◌, arith}
use Rattle.std.specs.Prelude.{All}
use Rattle.std.specs.Int.{bit_at}
use Rattle.std.specs.Int.Bits.{bit_and, bit_or}
use Rattle.std.proofs.lemmas.Nat.Bits.{bit_at_and, bit_at_or, bit_at-zero, bit_at-lt, bit_at-pow_same}
use Rattle.std.proofs.lemmas.List.Elements.{All-nil, All-cons, All-head, All-tail, All-weaker}
use Rattle.std.proofs.Math.Pow.{pow_mono}
use Rattle.std.proofs.Math.Nat.{two-pow-succ}
use Rattle.std.proofs.lemmas.Nat.{one_shl}
use Rattle.std.proofs.lemmas.Bool.{cases_order}
use Rattle.kk_rows.specs.Echelon.{IsLeadingBit, IsClear, IsClearAt, HasLeads, cleared}
use Rattle.kk_rows.proofs.Leading.{leading_bit, power_le, zero_is_not_one}
use Rattle.kk_rows.proofs.Reduced.{cleared_at}

-- a number with none of the leading bits is clear of the rows
pub clear_by_leads : (leads v : ℕ) (rows : List ℕ) → HasLeads leads rows → bit_and v leads ≡ 0 → IsClear rows v
clear_by_leads leads v rows led none = All-weaker (λ row. (p : ℕ) → IsLeadingBit row p → bit_at leads p ≡ 1) (λ row. IsClearAt row v)
    (λ row has p lead.
    let both : min (bit_at v p) (bit_at leads p) ≡ 0 = sym (bit_at_and v leads p) ∙ ap (λ x. bit_at x p) none ∙ bit_at-zero p in
    let one : min (bit_at v p) 1 ≡ 0 = ap (min (bit_at v p)) (sym (has p lead)) ∙ both in
    let low = bit_at-lt v p in
    omega (arith, one, low))
    rows led

-- and they leave it as it is
pub fold_clear : (rows : List ℕ) (v : ℕ) → All (λ row. 0 < row) rows → IsClear rows v → fold cleared v rows ≡ v
fold_clear [] v some clear = refl
fold_clear (r ∷ rows) v some clear =
    let top = leading_bit r (All-head (λ row. 0 < row) r rows some) in
    let stays : cleared v r ≡ v = elim (cleared_at r top.0 v top.1) [
      | inl e ↦ e.1
      | inr e ↦ absurd (zero_is_not_one _ (All-head (λ row. IsClearAt row v) r rows clear top.0 top.1) e.0)
    ] in
    ap (λ x. fold cleared x rows) stays ∙ fold_clear rows v (All-tail (λ row. 0 < row) r rows some) (All-tail (λ row. IsClearAt row v) r rows clear)

-- more bits do no harm
pub more_leads : (leads more : ℕ) (rows : List ℕ) → HasLeads leads rows → HasLeads (bit_or leads more) rows
more_leads leads more rows led = All-weaker (λ row. (p : ℕ) → IsLeadingBit row p → bit_at leads p ≡ 1) (λ row. (p : ℕ) → IsLeadingBit row p → bit_at (bit_or leads more) p ≡ 1)
    (λ row has p lead.
    let low = bit_at-lt more p in
    bit_at_or leads more p ∙ ap (λ b. max b (bit_at more p)) (has p lead) ∙ omega (arith, low))
    rows led

-- the leading bit by the powers of 2 around a row
lead_is : (w p q : ℕ) → IsLeadingBit w p → 2 ^ q ≤ w → w < 2 ^ (q + 1) → p ≡ q
lead_is w p q lead least most = elim (cases_order p q) [
  | inl e ↦ e
  | inr k ↦ elim k [
    | inl lt ↦ let le : p + 1 ≤ q = omega (arith, lt) in let m : 2 ^ (p + 1) ≤ 2 ^ q = pow_mono le in absurd (omega (arith, m, lead.none_above, least))
    | inr gt ↦ let le : q + 1 ≤ p = omega (arith, gt) in let m : 2 ^ (q + 1) ≤ 2 ^ p = pow_mono le in absurd (omega (arith, m, power_le w p lead.is_one, most))
  ]
]

-- the leading bit alone, as a word is shifted to it
pub lead_alone : (w p q n : ℕ) → q < n → IsLeadingBit w p → 2 ^ q ≤ w → w < 2 * 2 ^ q → 1 * 2 ^ q % 2 ^ n ≡ 2 ^ p
lead_alone w p q n few lead least most =
    let next : w < 2 ^ (q + 1) = omega (arith, most, two-pow-succ q, ap (λ n. 2 ^ n) (add-one q)) in
    one_shl q n few ∙ ap (λ k. 2 ^ k) (sym (lead_is w p q lead least next))

-- it leads the row among the leading bits
pub one_more_lead : (leads w more : ℕ) → ((p : ℕ) → IsLeadingBit w p → more ≡ 2 ^ p) → HasLeads (bit_or leads more) (w ∷ [])
one_more_lead leads w more alone =
    let P : ℕ → Type 0 = λ row. (p : ℕ) → IsLeadingBit row p → bit_at (bit_or leads more) p ≡ 1 in
    All-cons P w [] (λ p lead. ap (λ m. bit_at (bit_or leads m) p) (alone p lead) ∙ omega (arith, bit_at_or leads (2 ^ p) p, bit_at-pow_same p, bit_at-lt leads p)) (All-nil P)

-- rows of a space fit words that are as wide
pub fits_word : (width bits : ℕ) (rows : List ℕ) → width ≤ bits → All (λ row. row < 2 ^ width) rows → All (λ row. row < 2 ^ bits) rows
fits_word width bits rows wide each =
    let m : 2 ^ width ≤ 2 ^ bits = pow_mono wide in All-weaker (λ row. row < 2 ^ width) (λ row. row < 2 ^ bits) (λ row below. omega (arith, below, m)) rows each
