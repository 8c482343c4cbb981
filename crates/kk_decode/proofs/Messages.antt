-- The message that a polynomial gives.
use Rattle.std.proofs.Common.{◌≡◌, ◌≢◌, ◌⊎◌, inl, inr, ℕ, ◌-◌, ◌^◌, ◌<◌, ◌≤◌, List, ◌++◌, length, take, replicate, sym, ap, ◌∙◌, subst, arith, length-append, get_or}
use Rattle.std.specs.Prelude.{slice_index, Option, Some, None}
use Rattle.std.proofs.lemmas.List.{ext_get_or, get_or-take, length-replicate, length-take}
use Rattle.std.proofs.lemmas.List.Elements.{All-from_get_or}
use Rattle.kk_field.specs.Field.{Modulus, field_product}
use Rattle.kk_field.proofs.Residues.{zero-field_product}
use Rattle.kk_linpoly.specs.LinPoly.{IsOver, trimmed}
use Rattle.kk_linpoly.proofs.Coefficients.{coefficient-lt, slice_index-composition}
use Rattle.kk_linpoly.proofs.Stored.{SamePolynomial-append_zeros}
use Rattle.kk_linpoly.proofs.Trimmed.{length-trimmed-le, slice_index-trimmed}
use Rattle.kk_linpoly.proofs.Compositions.{composed-at_zero}
use Rattle.kk_interp.specs.declared.bi_poly.BiPoly.{BiPoly}
use Rattle.kk_code.specs.Codeword.{Parameters, IsMessage}
use Rattle.kk_decode.specs.Solving.{Solves}

-- a polynomial that solves has a term at y where it has one at x or y
pub no_quotient : (f : Modulus) → f.low < 2 ^ f.degree → (q : BiPoly) (u : List ℕ) → (slice_index q.qx 0 ≢ 0) ⊎ (slice_index q.qy 0 ≢ 0)
    → slice_index q.qy 0 ≡ 0 → Solves f q u → ⊥
no_quotient f h q u starts none solves =
    let x_none : slice_index q.qx 0 ≡ 0 =
    solves.exact.coefficients 0 ∙ slice_index-composition f h q.qy u 0 ∙ composed-at_zero f h (slice_index q.qy) (slice_index u)
    ∙ ap (λ c. field_product f c (slice_index u 0)) none ∙ zero-field_product f h (slice_index u 0) in
    elim starts [ inl x ↦ x x_none | inr y ↦ y none ]

-- the coefficients with zeros after them
module _ (k : ℕ) (g r : List ℕ) (few : length g ≤ k) (fits : k ≤ 64) (padded : r ≡ take k (g ++ replicate (64 - length g) 0)) where
  length_padded : length r ≡ k
  length_padded =
      let l = g ++ replicate (64 - length g) 0 in
      ap length padded ∙ omega (arith, length-take k l, length-append g (replicate (64 - length g) 0), length-replicate {A = ℕ} (64 - length g) 0)

  at_place : (i : ℕ) → i < k → get_or r i 0 ≡ slice_index g i
  at_place i less =
      let l = g ++ replicate (64 - length g) 0 in
      ap (λ s. get_or s i 0) padded ∙ get_or-take k l i 0 less ∙ (SamePolynomial-append_zeros g (64 - length g)).coefficients i

  pub message_is : (u : List ℕ) → length u ≡ k → g ≡ trimmed u → r ≡ u
  message_is u long e =
      ext_get_or 0 r u (length_padded ∙ sym long)
      (λ i less. at_place i (omega (arith, less, length_padded)) ∙ ap (λ s. slice_index s i) e ∙ slice_index-trimmed u i)

  pub padded_is_message : (p : Parameters) → k ≡ p.k → IsOver p.field.degree g → IsMessage p r
  padded_is_message p same over = record {
    len = length_padded ∙ same;
    symbols = All-from_get_or (λ s. s < 2 ^ p.field.degree) r 0
        (λ i within. subst (λ x. x < 2 ^ p.field.degree) (sym (at_place i (omega (arith, within, length_padded)))) (coefficient-lt p.field.degree g over i));
  }

-- a polynomial with more coefficients is none of a message
pub too_long : (k : ℕ) (g u : List ℕ) → k < length g → length u ≡ k → g ≡ trimmed u → ⊥
too_long k g u more long e = omega (arith, more, long, ap length e, length-trimmed-le u)

pub some_is : (u v : List ℕ) → Some u ≡ Some v → u ≡ v
some_is u v e = ap (λ (o : Option (List ℕ)). elim o [ None ↦ u | Some x ↦ x ]) e

pub none_is_no_some : (u : List ℕ) → None ≡ Some u → ⊥
none_is_no_some u e = cc
