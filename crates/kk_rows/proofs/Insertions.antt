-- One more row among reduced rows: those above it are cleared, and those below it stay as they are.
use Rattle.std.proofs.Common.{◌≡◌, ℕ, suc, ◌+◌, ◌<◌, ◌≤◌, ◌^◌, true, List, [], ◌∷◌, ◌++◌, length, take, drop, set, map, get_or, refl, sym, ap, ap₂, ◌∙◌, subst, inl, inr, bit_xor, arith, add-one}
use Rattle.std.specs.Prelude.{All}
use Rattle.std.specs.Int.{bit_at}
use Rattle.std.specs.Int.Bits.{xor_self}
use Rattle.std.proofs.Math.Pow.{pow_mono}
use Rattle.std.proofs.lemmas.Bool.{cases_order}
use Rattle.std.proofs.lemmas.List.{set_split, drop-map, map-append, take-append-drop, drop-drop}
use Rattle.std.proofs.lemmas.List.Elements.{All-head, All-tail, All-map}
use Rattle.kk_rows.specs.declared.rows.Row.{Row}
use Rattle.kk_rows.specs.Rows.{numbers}
use Rattle.kk_rows.specs.Echelon.{IsLeadingBit, IsClearAt, IsClear, IsReduced, HasLeads, cleared}
use Rattle.kk_rows.specs.Span.{in_span}
use Rattle.kk_rows.proofs.Spans.{in_span-zero}
use Rattle.kk_rows.proofs.Leading.{bit_cases, zero_is_not_one, power_le, leading_bit}
use Rattle.kk_rows.proofs.Reduced.{All-parts, cleared_at, lead_kept, inserted_is_reduced, inserted_below, inserted_leads, inserted_spans}

module _ (w : ℕ) (some : 0 < w) where
  -- a row below w has a 0 at its leading bit, and stays
  stays : (r : ℕ) → r ≤ w → IsClearAt r w → cleared r w ≡ r
  stays r below clear =
      let top = leading_bit w some in
      elim (bit_cases r top.0) [
        | inl none ↦ elim (cleared_at w top.0 r top.1) [
          | inl e ↦ e.1
          | inr e ↦ absurd (zero_is_not_one _ none e.0)
        ]
        | inr one ↦
            let lead : IsLeadingBit r top.0 = record { is_one = one; none_above = omega (arith, below, top.1.none_above) } in
            absurd (zero_is_not_one _ (clear top.0 lead) top.1.is_one)
      ]

  -- a row above w is still above it
  still_above : (r : ℕ) → 0 < r → w ≤ r → IsClearAt r w → w ≤ cleared r w
  still_above r pos above clear =
      let top = leading_bit w some in
      let lead = leading_bit r pos in
      let higher : top.0 < lead.0 = elim (cases_order top.0 lead.0) [
        | inl same ↦ absurd (zero_is_not_one _ (clear lead.0 lead.1) (subst (λ q. bit_at w q ≡ 1) same top.1.is_one))
        | inr k ↦ elim k [
          | inl lt ↦ lt
          | inr gt ↦
              let le : lead.0 + 1 ≤ top.0 = omega arith in
              let m : 2 ^ (lead.0 + 1) ≤ 2 ^ top.0 = pow_mono le in
              absurd (omega (arith, lead.1.none_above, m, power_le w top.0 top.1.is_one, above))
        ]
      ] in
      let le : top.0 + 1 ≤ lead.0 = omega (arith, higher) in
      let m : 2 ^ (top.0 + 1) ≤ 2 ^ lead.0 = pow_mono le in
      omega (arith, top.1.none_above, m, power_le (cleared r w) lead.0 (lead_kept w some r lead.0 clear lead.1).is_one)

  all_stay : (rows : List ℕ) → All (λ r. r ≤ w) rows → IsClear rows w → map (λ r. cleared r w) rows ≡ rows
  all_stay [] below clear = refl
  all_stay (r ∷ rows) below clear =
      ap₂ ◌∷◌ (stays r (All-head (λ r. r ≤ w) r rows below) (All-head (λ row. IsClearAt row w) r rows clear))
      (all_stay rows (All-tail (λ r. r ≤ w) r rows below) (All-tail (λ row. IsClearAt row w) r rows clear))

  module _ (rows : List ℕ) (p : ℕ) (reduced : IsReduced rows) (clear : IsClear rows w)
      (above : All (λ r. w ≤ r) (take p rows)) (below : All (λ r. r ≤ w) (drop p rows)) where
    halves : (P : ℕ → Type 0) → All P rows → All P (take p rows) × All P (drop p rows)
    halves P each = All-parts P (take p rows) (drop p rows) (subst (All P) (sym (take-append-drop p rows)) each)

    split : map (λ r. cleared r w) rows ≡ map (λ r. cleared r w) (take p rows) ++ drop p rows
    split =
        ap (map (λ r. cleared r w)) (sym (take-append-drop p rows))
        ∙ map-append (λ r. cleared r w) (take p rows) (drop p rows)
        ∙ ap (λ l. map (λ r. cleared r w) (take p rows) ++ l) (all_stay (drop p rows) below (halves (λ row. IsClearAt row w) clear).1)

    front_above : All (λ x. w ≤ x) (map (λ r. cleared r w) (take p rows))
    front_above =
        All-map (λ x. w ≤ x) (λ r. cleared r w) (take p rows)
        (λ k d lt. still_above (get_or (take p rows) k d) ((halves (λ r. 0 < r) reduced.nonzero).0 k d lt) (above k d lt)
        ((halves (λ row. IsClearAt row w) clear).0 k d lt))

    pub moved_is_reduced : IsReduced (map (λ r. cleared r w) (take p rows) ++ w ∷ drop p rows)
    moved_is_reduced = inserted_is_reduced w some rows (map (λ r. cleared r w) (take p rows)) (drop p rows) reduced clear split front_above below

    pub moved_below : (n : ℕ) → All (λ r. r < 2 ^ n) rows → w < 2 ^ n → All (λ r. r < 2 ^ n) (map (λ r. cleared r w) (take p rows) ++ w ∷ drop p rows)
    moved_below n each small = inserted_below n w small rows (map (λ r. cleared r w) (take p rows)) (drop p rows) each split

    pub moved_leads : (leads : ℕ) → HasLeads leads rows → HasLeads leads (w ∷ []) → HasLeads leads (map (λ r. cleared r w) (take p rows) ++ w ∷ drop p rows)
    moved_leads leads old new = inserted_leads leads w some rows (map (λ r. cleared r w) (take p rows)) (drop p rows) reduced clear split old new

    pub moved_spans : (x : ℕ) → in_span (map (λ r. cleared r w) (take p rows) ++ w ∷ drop p rows) x ≡ in_span (rows ++ w ∷ []) x
    moved_spans x =
        let same : in_span rows (bit_xor w w) ≡ true = subst (λ y. in_span rows y ≡ true) (sym (xor_self w)) (in_span-zero rows) in
        inserted_spans w w rows (map (λ r. cleared r w) (take p rows)) (drop p rows) same split x

-- the rows after the move, with v at the place that is left
pub moved_numbers : (old moved : List Row) (v : Row) (p : ℕ) → p < length moved
    → numbers (take p moved) ≡ map (λ r. cleared r v.0) (take p (numbers (drop 1 old))) → drop (p + 1) moved ≡ drop (p + 1) old
    → numbers (set moved p v) ≡ map (λ r. cleared r v.0) (take p (numbers (drop 1 old))) ++ v.0 ∷ drop p (numbers (drop 1 old))
moved_numbers old moved v p within front back =
    let N : List Row → List ℕ = numbers in
    let f : Row → ℕ = λ row. row.0 in
    let rows = drop 1 old in
    let after : drop (suc p) moved ≡ drop p rows =
    ap (λ k. drop k moved) (sym (add-one p)) ∙ back ∙ ap (λ k. drop k old) (omega arith) ∙ sym (drop-drop p 1 old) in
    ap N (set_split moved p v within)
    ∙ map-append f (take p moved) (v ∷ drop (suc p) moved)
    ∙ ap₂ (λ a b. a ++ v.0 ∷ b) front (ap N after ∙ sym (drop-map f p rows))
