-- One turn of a division from the lowest coefficient up.
use Rattle.std.proofs.Common.{◌≡◌, ℕ, suc, ◌-◌, ◌^◌, ◌<◌, ◌≤◌, List, length, take, bit_xor, sym, ap, ◌∙◌, arith, inl, inr}
use Rattle.std.specs.Prelude.{slice_index}
use Rattle.std.proofs.Math.Nat.{sub-zero}
use Rattle.std.proofs.lemmas.Bool.{cases_lt}
use Rattle.std.proofs.lemmas.List.{get_or_past, get_or-take, length-take}
use Rattle.kk_field.specs.Field.{Modulus, field_product, frobenius}
use Rattle.kk_field.proofs.Sums.{xor_cancel}
use Rattle.kk_field.proofs.Residues.{field_product-zero, field_product_comm, field_product_assoc, field_product-one}
use Rattle.kk_linpoly.specs.LinPoly.{SamePolynomial, composed, composition}
use Rattle.kk_linpoly.proofs.XorSums.{xor_sum-differs}
use Rattle.kk_linpoly.proofs.Coefficients.{slice_index-composition}

module _ (f : Modulus) (h : f.low < 2 ^ f.degree) where
  -- the first coefficient in which two factors differ
  composed-first_apart : (b q u : ℕ → ℕ) (s : ℕ) → ((i : ℕ) → i < s → u i ≡ q i) → q s ≡ 0
      → composed f b u s ≡ bit_xor (composed f b q s) (field_product f (b 0) (u s))
  unfolding frobenius
  composed-first_apart b q u s same free =
      xor_sum-differs (λ i. field_product f (b i) (frobenius f i (u (s - i)))) (λ i. field_product f (b i) (frobenius f i (q (s - i)))) (suc s) 0 (omega arith)
      (λ i below apart. ap (λ x. field_product f (b i) (frobenius f i x)) (same (s - i) (omega (arith, below, apart))))
      (ap (λ k. field_product f (b 0) (q k)) (sub-zero s) ∙ ap (field_product f (b 0)) free ∙ field_product-zero f h (b 0))
      ∙ ap (λ k. bit_xor (composed f b q s) (field_product f (b 0) (u k))) (sub-zero s)

  -- what is left at the place of a coefficient is b's lowest coefficient times it
  pub left_at : (a b q remainder u : List ℕ) (s : ℕ) → SamePolynomial a (composition f b u)
      → slice_index a s ≡ bit_xor (composed f (slice_index b) (slice_index q) s) (slice_index remainder s)
      → ((i : ℕ) → i < s → slice_index q i ≡ slice_index u i) → slice_index q s ≡ 0
      → slice_index remainder s ≡ field_product f (slice_index b 0) (slice_index u s)
  left_at a b q remainder u s exact sum agree free =
      let w = composed f (slice_index b) (slice_index q) s in
      let r = slice_index remainder s in
      let t = field_product f (slice_index b 0) (slice_index u s) in
      let both : bit_xor w r ≡ bit_xor w t =
      sym sum ∙ exact.coefficients s ∙ slice_index-composition f h b u s
      ∙ composed-first_apart (slice_index b) (slice_index q) (slice_index u) s (λ i less. sym (agree i less)) free in
      sym (xor_cancel w r) ∙ ap (bit_xor w) both ∙ xor_cancel w t

  -- so the quotient of both is the coefficient
  pub found : (b inverse left u c : ℕ) → u < 2 ^ f.degree → field_product f b inverse ≡ 1 → left ≡ field_product f b u
      → c ≡ field_product f left inverse → c ≡ u
  found b inverse left u c below one left_is c_is =
      c_is ∙ ap (λ x. field_product f x inverse) (left_is ∙ field_product_comm f h b u)
      ∙ field_product_assoc f h u b inverse ∙ ap (field_product f u) one ∙ field_product-one f h u below

-- the first coefficients agree with those of a polynomial that has no more
pub same_front : (cs u : List ℕ) (places : ℕ) → length u ≤ places → ((i : ℕ) → i < places → slice_index cs i ≡ slice_index u i)
    → SamePolynomial (take places cs) u
same_front cs u places few agree = record {
  coefficients = λ i. elim (cases_lt i places) [
    | inl less ↦ get_or-take places cs i 0 less ∙ agree i less
    | inr past ↦ get_or_past (take places cs) i 0 (omega (arith, past, length-take places cs)) ∙ sym (get_or_past u i 0 (omega (arith, past, few)))
  ];
}
