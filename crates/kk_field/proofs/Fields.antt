-- Residues modulo an irreducible polynomial are a field.
use Rattle.std.proofs.Common.{◌≡◌, ℕ, zero, suc, ◌+◌, ◌^◌, ◌<◌, ◌≤◌, bit_xor, sym, ap, ◌∙◌, arith, inl, inr}
use Rattle.std.proofs.lemmas.Bool.{cases_lt}
use Rattle.std.specs.Int.Bits.{xor_comm, xor_self, xor_lt}
use Rattle.kk_field.proofs.Sums.{move_right, same_from_xor_zero}
use Rattle.kk_field.proofs.Products.{product_comm}
use Rattle.kk_field.proofs.Remainders.{HasDegree-modulus, remainder_by}
use Rattle.kk_field.proofs.Residues.{residue-below, field_product-residue, field_product_comm, field_product_assoc, field_product-xor, field_product-zero, one-field_product, square-xor_residues, frobenius-below}
use Rattle.kk_field.proofs.Divisors.{coprime}
use Rattle.kk_field.specs.Polynomial.{product, IsIrreducible}
use Rattle.kk_field.specs.Field.{Modulus, polynomial, residue, field_product, frobenius}

module _ (f : Modulus) (h : f.low < 2 ^ f.degree) (irreducible : IsIrreducible (polynomial f)) where
  pub one_below : 1 < 2 ^ f.degree
  one_below = omega (arith, irreducible.at_least_two)

  pub inverse_of : (a : ℕ) → a < 2 ^ f.degree → 0 < a → (b : ℕ) × (b < 2 ^ f.degree) × (field_product f a b ≡ 1)
  inverse_of a below positive =
      let p = polynomial f in
      let least : 2 ^ f.degree ≤ 2 ^ f.degree + f.low = omega arith in
      let c = coprime f.degree p a irreducible least below positive in
      let multiple : product a c.0 ≡ bit_xor (product p c.1) 1 =
      product_comm a c.0 ∙ move_right (product c.0 a) (product c.1 p) 1 (sym c.2) ∙ xor_comm 1 (product c.1 p)
      ∙ ap (λ x. bit_xor x 1) (product_comm c.1 p) in (
        residue f c.0,
        residue-below f h c.0,
        field_product-residue f h a c.0 ∙ remainder_by f.degree p (HasDegree-modulus f.degree f.low h) (product a c.0) 1 c.1 one_below multiple,
      )

  pub no_zero_divisors_of_residues : (a b : ℕ) → a < 2 ^ f.degree → 0 < a → b < 2 ^ f.degree → field_product f a b ≡ 0 → b ≡ 0
  no_zero_divisors_of_residues a b below positive b_below none =
      let i = inverse_of a below positive in
      sym (one-field_product f h b b_below)
      ∙ ap (λ x. field_product f x b) (sym i.2 ∙ field_product_comm f h a i.0)
      ∙ field_product_assoc f h i.0 a b
      ∙ ap (field_product f i.0) none
      ∙ field_product-zero f h i.0

  pub field_product_cancel : (a b c : ℕ) → a < 2 ^ f.degree → 0 < a → b < 2 ^ f.degree → c < 2 ^ f.degree
      → field_product f a b ≡ field_product f a c → b ≡ c
  field_product_cancel a b c below positive b_below c_below e =
      same_from_xor_zero b c
      (no_zero_divisors_of_residues a (bit_xor b c) below positive (xor_lt f.degree b c b_below c_below)
      (field_product-xor f h a b c ∙ ap (λ x. bit_xor x (field_product f a c)) e ∙ xor_self (field_product f a c)))

  pub field_product-positive : (a b : ℕ) → a < 2 ^ f.degree → 0 < a → b < 2 ^ f.degree → 0 < b → 0 < field_product f a b
  field_product-positive a b below positive b_below b_positive =
      elim (cases_lt 0 (field_product f a b)) [
        | inl more ↦ more
        | inr less ↦ let none : field_product f a b ≡ 0 = omega arith in
            absurd (omega (arith, no_zero_divisors_of_residues a b below positive b_below none))
      ]

  pub square_zero : (a : ℕ) → a < 2 ^ f.degree → field_product f a a ≡ 0 → a ≡ 0
  square_zero a below none =
      elim (cases_lt 0 a) [
        | inl positive ↦ no_zero_divisors_of_residues a a below positive below none
        | inr less ↦ omega arith
      ]

  pub square_injective : (a b : ℕ) → a < 2 ^ f.degree → b < 2 ^ f.degree → field_product f a a ≡ field_product f b b → a ≡ b
  square_injective a b below b_below e =
      same_from_xor_zero a b
      (square_zero (bit_xor a b) (xor_lt f.degree a b below b_below)
      (square-xor_residues f h a b ∙ ap (λ x. bit_xor x (field_product f b b)) e ∙ xor_self (field_product f b b)))

  pub frobenius_injective : (i a b : ℕ) → a < 2 ^ f.degree → b < 2 ^ f.degree → frobenius f i a ≡ frobenius f i b → a ≡ b
  unfolding frobenius
  frobenius_injective zero a b below b_below e = e
  frobenius_injective (suc i) a b below b_below e =
      frobenius_injective i a b below b_below
      (square_injective (frobenius f i a) (frobenius f i b) (frobenius-below f h i a below) (frobenius-below f h i b b_below) e)
