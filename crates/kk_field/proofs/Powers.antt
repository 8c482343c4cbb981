-- Powers of residues, and Fermat's theorem for a field: a^(2^m - 1) is 1 for each a but 0.
use Rattle.std.proofs.Common.{◌≡◌, ℕ, zero, suc, ◌+◌, ◌-◌, ◌*◌, ◌/◌, ◌%◌, ◌^◌, ◌<◌, ◌≤◌, refl, sym, ap, ◌∙◌, arith, inl, inr}
use Rattle.std.proofs.Math.Nat.{pow-suc, add-zero, add-suc, zero-mul, suc-mul, div-add-mod', mod-lt, mod-eq_of_lt, mod_self, sub-zero}
use Rattle.std.proofs.Math.Pow.{pow_pos}
use Rattle.std.proofs.Math.Numerals.{add-one}
use Rattle.std.proofs.lemmas.Bool.{cases_lt}
use Rattle.kk_field.proofs.Residues.{field_product-below, field_product_comm, field_product_assoc, field_product-one, one-field_product, field_product-zero, frobenius-zero, frobenius-add}
use Rattle.kk_field.proofs.Fields.{one_below, inverse_of, field_product-positive, field_product_cancel}
use Rattle.kk_field.proofs.RangeProducts.{range_product, range_product-below, range_product-field_product, range_product-permuted, Permutes}
use Rattle.kk_field.specs.Polynomial.{IsIrreducible}
use Rattle.kk_field.specs.Field.{Modulus, polynomial, field_product, frobenius, power}

-- i and what is left of its round of m are whole rounds
rest_of_round : (m i : ℕ) → 0 < m → (j : ℕ) × (i + (m - i % m) % m ≡ j * m)
rest_of_round m i positive =
    let split : i / m * m + i % m ≡ i = div-add-mod' i m in
    let small : i % m < m = mod-lt i positive in
    elim (cases_lt 0 (i % m)) [
      | inl more ↦ let e : (m - i % m) % m ≡ m - i % m = mod-eq_of_lt (omega arith) in
          (suc (i / m), rw (e, suc-mul (i / m) m) (omega arith))
      | inr less ↦ let none : i % m ≡ 0 = omega arith in
          let e : (m - i % m) % m ≡ 0 = rw (none, sub-zero m) (mod_self m) in
          (i / m, rw e (omega arith))
    ]

module _ (f : Modulus) (h : f.low < 2 ^ f.degree) (one : 1 < 2 ^ f.degree) where
  pub power-below : (a n : ℕ) → power f a n < 2 ^ f.degree
  unfolding power
  power-below a zero = one
  power-below a (suc n) = field_product-below f h (power f a n) a

  pub power-one : (a : ℕ) → a < 2 ^ f.degree → power f a 1 ≡ a
  unfolding power
  power-one a below = one-field_product f h a below

  pub power-add : (a i j : ℕ) → power f a (i + j) ≡ field_product f (power f a i) (power f a j)
  unfolding power
  power-add a i zero = ap (power f a) (add-zero i) ∙ sym (field_product-one f h (power f a i) (power-below a i))
  power-add a i (suc j) =
      ap (power f a) (add-suc i j) ∙ ap (λ x. field_product f x a) (power-add a i j)
      ∙ field_product_assoc f h (power f a i) (power f a j) a

  pub frobenius-power : (i a : ℕ) → a < 2 ^ f.degree → frobenius f i a ≡ power f a (2 ^ i)
  unfolding frobenius
  frobenius-power zero a below = sym (power-one a below)
  frobenius-power (suc i) a below =
      let twice : 2 ^ suc i ≡ 2 ^ i + 2 ^ i = omega (arith, pow-suc 2 i) in
      ap (λ x. field_product f x x) (frobenius-power i a below)
      ∙ sym (power-add a (2 ^ i) (2 ^ i)) ∙ sym (ap (power f a) twice)

  -- one more factor a^(2^i) of an inverse
  pub inverse_more : (a i b c : ℕ) → a < 2 ^ f.degree → field_product f b a ≡ power f a (2 ^ i - 1) → c ≡ frobenius f i a
      → field_product f (field_product f b c) a ≡ power f a (2 ^ (i + 1) - 1)
  inverse_more a i b c below eb ec =
      let next : 2 ^ (i + 1) - 1 ≡ (2 ^ i - 1) + 2 ^ i = rw (add-one i) (omega (arith, pow-suc 2 i, pow_pos i)) in
      field_product_assoc f h b c a ∙ ap (field_product f b) (field_product_comm f h c a) ∙ sym (field_product_assoc f h b a c)
      ∙ ap (λ x. field_product f x c) eb ∙ ap (field_product f (power f a (2 ^ i - 1))) (ec ∙ frobenius-power i a below)
      ∙ sym (power-add a (2 ^ i - 1) (2 ^ i)) ∙ sym (ap (power f a) next)

  power-range : (a n : ℕ) → range_product f (λ x. a) n ≡ power f a n
  unfolding range_product power
  power-range a zero = refl
  power-range a (suc n) = ap (λ x. field_product f x a) (power-range a n)

module _ (f : Modulus) (h : f.low < 2 ^ f.degree) (irreducible : IsIrreducible (polynomial f)) where
  one_small : 1 < 2 ^ f.degree
  one_small = one_below f h irreducible

  -- a times each residue but 0 is each residue but 0 once
  multiples_permute : (a b : ℕ) → a < 2 ^ f.degree → 0 < a → b < 2 ^ f.degree → 0 < b → field_product f a b ≡ 1
      → Permutes (field_product f a) (field_product f b) (2 ^ f.degree - 1)
  multiples_permute a b a_below a_positive b_below b_positive e = record {
    low = λ x l u. field_product-positive f h irreducible a x a_below a_positive (omega arith) l;
    high = λ x l u. omega (arith, field_product-below f h a x);
    back_low = λ y l u. field_product-positive f h irreducible b y b_below b_positive (omega arith) l;
    back_high = λ y l u. omega (arith, field_product-below f h b y);
    returns = λ x l u. sym (field_product_assoc f h b a x) ∙ ap (λ y. field_product f y x) (field_product_comm f h b a ∙ e) ∙ one-field_product f h x (omega arith);
    reaches = λ y l u. sym (field_product_assoc f h a b y) ∙ ap (λ x. field_product f x y) e ∙ one-field_product f h y (omega arith);
  }

  range_positive : (n : ℕ) → n ≤ 2 ^ f.degree - 1 → 0 < range_product f (λ x. x) n
  unfolding range_product
  range_positive zero most = omega arith
  range_positive (suc n) most =
      field_product-positive f h irreducible (range_product f (λ x. x) n) (suc n)
      (range_product-below f h one_small (λ x. x) n) (range_positive n (omega arith)) (omega arith) (omega arith)

  pub power_of_order : (a : ℕ) → a < 2 ^ f.degree → 0 < a → power f a (2 ^ f.degree - 1) ≡ 1
  power_of_order a below positive =
      let n = 2 ^ f.degree - 1 in
      let all = range_product f (λ x. x) n in
      let b = inverse_of f h irreducible a below positive in
      let b_positive : 0 < b.0 =
      elim (cases_lt 0 b.0) [
        | inl more ↦ more
        | inr less ↦ let none : b.0 ≡ 0 = omega arith in
            absurd (omega (arith, b.2, ap (field_product f a) none ∙ field_product-zero f h a))
      ] in
      let same : field_product f (power f a n) all ≡ all =
      sym (ap (λ x. field_product f x all) (power-range f h one_small a n))
      ∙ sym (range_product-field_product f h one_small (λ x. a) (λ x. x) n)
      ∙ range_product-permuted f h one_small (λ x. x) (field_product f a) (field_product f b.0) n
      (multiples_permute a b.0 below positive b.1 b_positive b.2) (λ y l u. omega arith) in
      field_product_cancel f h irreducible all (power f a n) 1
      (range_product-below f h one_small (λ x. x) n) (range_positive n (omega arith))
      (power-below f h one_small a n) one_small
      (field_product_comm f h all (power f a n) ∙ same ∙ sym (field_product-one f h all (range_product-below f h one_small (λ x. x) n)))

  -- the Frobenius map applied m times is the identity
  pub frobenius_of_degree : (a : ℕ) → a < 2 ^ f.degree → frobenius f f.degree a ≡ a
  frobenius_of_degree a below =
      elim (cases_lt 0 a) [
        | inl positive ↦
            let next : 2 ^ f.degree ≡ (2 ^ f.degree - 1) + 1 = omega (arith, one_small) in
            frobenius-power f h one_small f.degree a below
            ∙ ap (power f a) next
            ∙ power-add f h one_small a (2 ^ f.degree - 1) 1
            ∙ ap (λ x. field_product f x (power f a 1)) (power_of_order a below positive)
            ∙ one-field_product f h (power f a 1) (power-below f h one_small a 1)
            ∙ power-one f h one_small a below
        | inr less ↦ let none : a ≡ 0 = omega arith in
            ap (frobenius f f.degree) none ∙ frobenius-zero f h f.degree ∙ sym none
      ]

  -- whole rounds of the Frobenius map
  pub frobenius-rounds : (j a : ℕ) → a < 2 ^ f.degree → frobenius f (j * f.degree) a ≡ a
  unfolding frobenius
  frobenius-rounds zero a below = ap (λ k. frobenius f k a) (zero-mul f.degree)
  frobenius-rounds (suc j) a below =
      ap (λ k. frobenius f k a) (suc-mul j f.degree) ∙ frobenius-add f h (j * f.degree) f.degree a
      ∙ ap (frobenius f (j * f.degree)) (frobenius_of_degree a below) ∙ frobenius-rounds j a below

  -- the rest of a round brings i to whole rounds
  pub frobenius-rest : (i a : ℕ) → 0 < f.degree → a < 2 ^ f.degree
      → frobenius f i (frobenius f ((f.degree - i % f.degree) % f.degree) a) ≡ a
  frobenius-rest i a positive below =
      let m = f.degree in
      let whole : (j : ℕ) × (i + (m - i % m) % m ≡ j * m) = rest_of_round m i positive in
      sym (frobenius-add f h i ((m - i % m) % m) a) ∙ ap (λ k. frobenius f k a) whole.1 ∙ frobenius-rounds whole.0 a below
