-- An inverse by a chain of powers: a number b with b·a = a^(2^n) is a^(2^n - 1) where a isn't 0.
use Rattle.std.proofs.Common.{◌≡◌, ℕ, suc, ◌+◌, ◌-◌, ◌*◌, ◌/◌, ◌%◌, ◌^◌, ◌<◌, ◌≤◌, refl, sym, ap, ◌∙◌, arith, inl, inr}
use Rattle.std.proofs.Math.Nat.{div-div-eq-div-mul, div-add-mod', div-one, mod-lt, zero-mul, sub-zero, pow-suc}
use Rattle.std.proofs.Math.Pow.{pow_pos, shr_lt}
use Rattle.std.proofs.lemmas.Bool.{cases_lt}
use Rattle.kk_field.proofs.Residues.{field_product-below, field_product_comm, field_product_assoc, field_product_swap, field_product-one, frobenius-field_product, frobenius-add}
use Rattle.kk_field.proofs.Fields.{one_below, field_product_cancel}
use Rattle.kk_field.proofs.Powers.{frobenius_of_degree}
use Rattle.kk_field.specs.Field.{Modulus, field_product, frobenius}
use Rattle.kk_field.specs.Laws.{IsFieldModulus, IsInverse}

module _ (f : Modulus) (is : IsFieldModulus f) where
  h : f.low < 2 ^ f.degree
  h = is.modulus.low_below

  pub chain_first : (a : ℕ) → field_product f a a ≡ frobenius f 1 a
  unfolding frobenius
  chain_first a = refl

  pub chain_doubled : (a b n : ℕ) → field_product f b a ≡ frobenius f n a
      → field_product f (field_product f (frobenius f n b) b) a ≡ frobenius f (n + n) a
  chain_doubled a b n e =
      field_product_assoc f h (frobenius f n b) b a
      ∙ ap (field_product f (frobenius f n b)) e
      ∙ sym (frobenius-field_product f h n b a)
      ∙ ap (frobenius f n) e
      ∙ sym (frobenius-add f h n n a)

  pub chain_more : (a b n : ℕ) → field_product f b a ≡ frobenius f n a
      → field_product f (field_product f (field_product f b b) a) a ≡ frobenius f (suc n) a
  unfolding frobenius
  chain_more a b n e =
      field_product_assoc f h (field_product f b b) a a
      ∙ field_product_swap f h b b a a
      ∙ ap (λ x. field_product f x x) e

  pub chain_inverse : (a b n : ℕ) → a < 2 ^ f.degree → 0 < a → suc n ≡ f.degree → field_product f b a ≡ frobenius f n a
      → IsInverse f a (field_product f b b)
  chain_inverse a b n below positive whole e =
      let r = field_product f b b in
      let one = one_below f h is.irreducible in
      let back : field_product f a (field_product f r a) ≡ field_product f a 1 =
      field_product_comm f h a (field_product f r a) ∙ chain_more a b n e ∙ ap (λ k. frobenius f k a) whole
      ∙ frobenius_of_degree f h is.irreducible a below ∙ sym (field_product-one f h a below) in
      let product : field_product f r a ≡ 1 =
      field_product_cancel f h is.irreducible a (field_product f r a) 1 below positive (field_product-below f h r a) one back in
      record { residue = field_product-below f h b b; product_is_one = field_product_comm f h a r ∙ product }

  -- in GF(2)
  pub inverse_of_one : (a : ℕ) → f.degree ≡ 1 → a < 2 ^ f.degree → 0 < a → IsInverse f a a
  inverse_of_one a one below positive =
      let small : a < 2 ^ 1 = rw one at below in
      let e : a ≡ 1 = omega (arith, small, positive) in
      record { residue = below; product_is_one = ap (field_product f a) e ∙ field_product-one f h a below ∙ e }

-- the digits of n from place s on, and one digit more
pub digits_next : (n s : ℕ) → n / 2 ^ s ≡ n / 2 ^ suc s + n / 2 ^ suc s + n / 2 ^ s % 2
digits_next n s =
    let half : n / 2 ^ s / 2 ≡ n / 2 ^ suc s = div-div-eq-div-mul n (2 ^ s) 2 ∙ ap (λ p. n / p) (sym (pow-suc 2 s)) in
    omega (arith, half)

-- the highest digit
pub digits_first : (n k : ℕ) → 2 ^ k ≤ n → n < 2 * 2 ^ k → n / 2 ^ (k - 0) ≡ 1
digits_first n k least below =
    let next : 1 + k ≡ suc k = omega arith in
    let whole : n < 2 ^ (1 + k) = rw (next, pow-suc 2 k) (omega (arith, below)) in
    let small : n / 2 ^ k < 2 ^ 1 = shr_lt 1 k whole in
    let some : 1 ≤ n / 2 ^ k =
    elim (cases_lt 0 (n / 2 ^ k)) [
      | inl more ↦ more
      | inr less ↦ let none : n / 2 ^ k ≡ 0 = omega arith in
          absurd (omega (arith, least, div-add-mod' n (2 ^ k), ap (λ q. q * 2 ^ k) none, zero-mul (2 ^ k), mod-lt n (pow_pos k)))
    ] in
    ap (λ j. n / 2 ^ j) (sub-zero k) ∙ omega (arith, small, some)

pub digits_last : (n k i : ℕ) → i ≡ k → n / 2 ^ (k - i) ≡ n
digits_last n k i e = let none : k - i ≡ 0 = omega arith in ap (λ s. n / 2 ^ s) none ∙ div-one n
