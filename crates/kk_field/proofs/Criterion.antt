-- What tells an irreducible modulus: X^(2^m) is X, and 0 and 1 are the only idempotent residues.
use Rattle.std.proofs.Common.{◌≡◌, ℕ, suc, ◌+◌, ◌-◌, ◌*◌, ◌/◌, ◌%◌, ◌^◌, ◌<◌, ◌≤◌, bit_xor, sym, ap, ◌∙◌, arith, subst, inl, inr}
use Rattle.std.proofs.Math.Arith.{bin_ind}
use Rattle.std.proofs.Math.Pow.{pow_pos, pow_mono}
use Rattle.std.proofs.lemmas.Bool.{cases_lt}
use Rattle.std.specs.Int.Bits.{xor_zero_r, xor_self, xor_lt}
use Rattle.kk_field.proofs.Sums.{xor_xor_swap, move_right, by_digits, digit_cases, same_from_xor_zero, xor_cancel}
use Rattle.kk_field.proofs.Products.{products, product_comm, product_assoc, product_left_comm, product-zero, zero-product, product-one, product-xor}
use Rattle.kk_field.proofs.Degrees.{HasDegree, HasDegree-product, degree_of, degree_unique, degree-at_least, product-at_least}
use Rattle.kk_field.proofs.Remainders.{HasDegree-modulus, remainder-is, remainder-multiple, product-two}
use Rattle.kk_field.proofs.Residues.{one_small, residue-below, residue-small, residue-xor, residue-field_product, field_product-residue, field_product-residues, field_product-xor, field_product-one, square-xor_residues, frobenius-zero, frobenius-one, frobenius-xor, frobenius-field_product, frobenius-add}
use Rattle.kk_field.proofs.Divisors.{Divides, Divides-xor, bezout}
use Rattle.kk_field.proofs.Fields.{no_zero_divisors_of_residues}
use Rattle.kk_field.proofs.Powers.{frobenius_of_degree}
use Rattle.kk_field.specs.Polynomial.{product, IsIrreducible}
use Rattle.kk_field.specs.Field.{Modulus, polynomial, residue, field_product, frobenius}
use Rattle.kk_field.specs.Laws.{IsModulus, FrobeniusFixesX, OnlyTrivialIdempotents}

-- a·a + a
unfoldable pub artin_schreier : Modulus → ℕ → ℕ
artin_schreier f a = bit_xor (field_product f a a) a

-- ---- factors

-- a divisor of 1 is 1
divides_one : (d : ℕ) → Divides d 1 → d < 2
divides_one d h =
    elim (cases_lt d 2) [
      | inl small ↦ small
      | inr big ↦ elim (cases_lt 0 h.quotient) [
        | inl more ↦ absurd (omega (arith, h.is, product-at_least 1 d h.quotient big more))
        | inr less ↦ let none : h.quotient ≡ 0 = omega arith in
            absurd (omega (arith, h.is, ap (product d) none ∙ product-zero d))
      ]
    ]

-- the square of n = g·c is a multiple of g·n
square_of : (g c p : ℕ) → product g (product g c) ≡ p → product p c ≡ product (product g c) (product g c)
square_of g c p e =
    ap (λ x. product x c) (sym e) ∙ product_assoc g (product g c) c ∙ product_left_comm g (product g c) c

cross : (a b u v p : ℕ) → product a b ≡ p → product p (product u v) ≡ product (product u a) (product v b)
cross a b u v p e = ap (λ x. product x (product u v)) (sym e) ∙ simp products

-- where x and y add up to 1, x is its square up to x·y
square_split : (x y : ℕ) → 1 ≡ bit_xor x y → product x x ≡ bit_xor x (product x y)
square_split x y one =
    move_right (product x x) (product x y) x (sym (product-xor x x y) ∙ ap (product x) (sym one) ∙ product-one x)

second_zero : (r : ℕ) → 1 ≡ bit_xor 1 r → r ≡ 0
second_zero r e = sym (xor_cancel 1 r) ∙ ap (bit_xor 1) (sym e) ∙ xor_self 1

-- a multiple of a·b is one of each
left_factor : (a b p q x : ℕ) → product a b ≡ p → product p q ≡ x → product a (product b q) ≡ x
left_factor a b p q x e is = sym (product_assoc a b q) ∙ ap (λ y. product y q) e ∙ is

-- a common factor of a and b is a square factor of their product
common_factor : (a b g q r p : ℕ) → product g q ≡ a → product g r ≡ b → product a b ≡ p
    → product g (product g (product q r)) ≡ p
common_factor a b g q r p ea eb e =
    let order : product g (product g (product q r)) ≡ product (product g q) (product g r) = simp products in
    order ∙ ap (λ x. product x (product g r)) ea ∙ ap (product a) eb ∙ e

-- 0 is a factor of 0 alone
Divides_by_zero : (g a : ℕ) → g ≡ 0 → Divides g a → a ≡ 0
Divides_by_zero g a none d = sym d.is ∙ ap (λ x. product x d.quotient) none ∙ zero-product d.quotient

module _ (f : Modulus) (h : IsModulus f) where
  p_degree : HasDegree (polynomial f) f.degree
  p_degree = HasDegree-modulus f.degree f.low h.low_below

  one_is_small : 1 < 2 ^ f.degree
  one_is_small = one_small f.degree h.at_least_one

  -- a residue 0 is a multiple of the modulus
  multiple_from_residue : (a : ℕ) → residue f a ≡ 0 → Divides (polynomial f) a
  multiple_from_residue a none =
      let r = remainder-is f.degree (polynomial f) p_degree a in
      record {
        quotient = r.quotient.0;
        is = sym (r.quotient.1 ∙ ap (bit_xor (product (polynomial f) r.quotient.0)) none ∙ xor_zero_r (product (polynomial f) r.quotient.0));
      }

  residue-multiple : (a : ℕ) → Divides (polynomial f) a → residue f a ≡ 0
  residue-multiple a d = ap (residue f) (sym d.is) ∙ remainder-multiple f.degree (polynomial f) p_degree d.quotient

  -- ---- where X is fixed, the Frobenius map applied m times is the identity, and no residue but 0 has the square 0

  digit_residue : (n : ℕ) → residue f (n % 2) ≡ n % 2
  digit_residue n = residue-small f h.low_below (n % 2) (omega (arith, one_is_small))

  frobenius-digit : (i n : ℕ) → frobenius f i (n % 2) ≡ n % 2
  frobenius-digit i n =
      elim (digit_cases n) [
        | inl e ↦ rw e (frobenius-zero f h.low_below i)
        | inr e ↦ rw e (frobenius-one f h.low_below one_is_small i)
      ]

  residue-by_digits : (n : ℕ) → residue f n ≡ bit_xor (field_product f (residue f (n / 2)) (residue f 2)) (n % 2)
  unfolding field_product
  residue-by_digits n =
      sym (ap (residue f) (by_digits n)) ∙ residue-xor f h.low_below (n / 2 * 2) (n % 2)
      ∙ ap (λ x. bit_xor (residue f (n / 2 * 2)) x) (digit_residue n)
      ∙ ap (λ x. bit_xor x (n % 2))
      (sym (ap (residue f) (product-two (n / 2)))
      ∙ sym (residue-field_product f h.low_below (n / 2) 2)
      ∙ sym (field_product-residue f h.low_below (residue f (n / 2)) 2))

  square_zero : (n : ℕ) → Divides (polynomial f) (product n n) → field_product f n n ≡ 0
  unfolding field_product
  square_zero n d = residue-multiple (product n n) d

  module _ (fixed : FrobeniusFixesX f) where
    frobenius-residue : (a : ℕ) → frobenius f f.degree (residue f a) ≡ residue f a
    frobenius-residue =
        bin_ind (λ a. frobenius f f.degree (residue f a) ≡ residue f a)
        (let zero_is = residue-small f h.low_below 0 (pow_pos f.degree) in
        ap (frobenius f f.degree) zero_is ∙ frobenius-zero f h.low_below f.degree ∙ sym zero_is)
        (λ n ih.
        let m = f.degree in
        let u = residue f (n / 2) in
        let x = residue f 2 in
        ap (frobenius f m) (residue-by_digits n)
        ∙ frobenius-xor f h.low_below m (field_product f u x) (n % 2)
        ∙ ap (bit_xor (frobenius f m (field_product f u x))) (frobenius-digit m n)
        ∙ ap (λ y. bit_xor y (n % 2))
        (frobenius-field_product f h.low_below m u x
        ∙ ap (λ y. field_product f y (frobenius f m x)) ih
        ∙ ap (field_product f u) fixed)
        ∙ sym (residue-by_digits n))

    no_nilpotents : (a : ℕ) → a < 2 ^ f.degree → field_product f a a ≡ 0 → a ≡ 0
    unfolding frobenius
    no_nilpotents a below none =
        let next : f.degree ≡ (f.degree - 1) + 1 = omega (arith, h.at_least_one) in
        sym (residue-small f h.low_below a below)
        ∙ sym (frobenius-residue a)
        ∙ ap (frobenius f f.degree) (residue-small f h.low_below a below)
        ∙ ap (λ i. frobenius f i a) next
        ∙ frobenius-add f h.low_below (f.degree - 1) 1 a
        ∙ ap (frobenius f (f.degree - 1)) none
        ∙ frobenius-zero f h.low_below (f.degree - 1)

    -- a square factor g of the modulus g·n, where g is a factor of n, gives the residue n, whose square is 0
    no_square_factor : (g c : ℕ) → 2 ≤ g → product g (product g c) ≡ polynomial f → ⊥
    no_square_factor g c big e =
        let n = product g c in
        elim (cases_lt 0 n) [
          | inl positive ↦
              let j = degree_of g (omega arith) in
              let k = degree_of n positive in
              let degrees = degree_unique (polynomial f) (j.0 + k.0) f.degree (subst (λ p. HasDegree p (j.0 + k.0)) e (HasDegree-product g j.0 n k.0 j.1 k.1)) p_degree in
              let j_least : 1 ≤ j.0 = degree-at_least 1 g j.0 big j.1.below in
              let less : suc k.0 ≤ f.degree = omega arith in
              let powers : 2 ^ suc k.0 ≤ 2 ^ f.degree = pow_mono less in
              let below : n < 2 ^ f.degree = omega (arith, k.1.below, powers) in
              let none = square_zero n (record { quotient = c; is = square_of g c (polynomial f) e }) in
              absurd (omega (arith, positive, no_nilpotents n below none))
          | inr none ↦
              let is : n ≡ 0 = omega arith in
              absurd (omega (arith, p_degree.at_least, pow_pos f.degree, sym e ∙ ap (product g) is ∙ product-zero g))
        ]

  -- ---- factors without a common factor give an idempotent

  idempotent_from : (x y : ℕ) → 1 ≡ bit_xor x y → Divides (polynomial f) (product x y)
      → field_product f (residue f x) (residue f x) ≡ residue f x
  idempotent_from x y one d =
      field_product-residues f h.low_below x x ∙ ap (residue f) (square_split x y one)
      ∙ residue-xor f h.low_below x (product x y) ∙ ap (bit_xor (residue f x)) (residue-multiple (product x y) d)
      ∙ xor_zero_r (residue f x)

  -- residues of x and y, which add up to 1
  other_residue : (x y : ℕ) → 1 ≡ bit_xor x y → residue f x ≡ 1 → residue f y ≡ 0
  other_residue x y one is =
      second_zero (residue f y)
      (sym (residue-small f h.low_below 1 one_is_small) ∙ ap (residue f) one ∙ residue-xor f h.low_below x y
      ∙ ap (λ r. bit_xor r (residue f y)) is)

  module _ (trivial : OnlyTrivialIdempotents f) where
    no_coprime_factors : (a b u v : ℕ) → 2 ≤ a → 2 ≤ b → product a b ≡ polynomial f → 1 ≡ bit_xor (product u a) (product v b) → ⊥
    no_coprime_factors a b u v a_big b_big e one =
        let x = product u a in
        let y = product v b in
        let idempotent : field_product f (residue f x) (residue f x) ≡ residue f x =
        idempotent_from x y one (record { quotient = product u v; is = cross a b u v (polynomial f) e }) in
        let b_divides_y : Divides b y = record { quotient = v; is = product_comm b v } in
        let a_divides_x : Divides a x = record { quotient = u; is = product_comm a u } in
        elim (cases_lt (residue f x) 1) [
          | inl zero_x ↦
              let none : residue f x ≡ 0 = omega arith in
              let d = multiple_from_residue x none in
              let b_divides_x : Divides b x = record { quotient = product a d.quotient; is = left_factor b a (polynomial f) d.quotient x (product_comm b a ∙ e) d.is } in
              absurd (omega (arith, b_big, divides_one b (subst (Divides b) (sym one) (Divides-xor b x y b_divides_x b_divides_y))))
          | inr one_x ↦
              let small : residue f x < 2 = trivial (residue f x) (residue-below f h.low_below x) idempotent in
              let is_one : residue f x ≡ 1 = omega arith in
              let none : residue f y ≡ 0 = other_residue x y one is_one in
              let d = multiple_from_residue y none in
              let a_divides_y : Divides a y = record { quotient = product b d.quotient; is = left_factor a b (polynomial f) d.quotient y e d.is } in
              absurd (omega (arith, a_big, divides_one a (subst (Divides a) (sym one) (Divides-xor a x y a_divides_x a_divides_y))))
        ]

  -- ---- both directions

  pub irreducible_from : FrobeniusFixesX f → OnlyTrivialIdempotents f → IsIrreducible (polynomial f)
  irreducible_from fixed trivial = record {
    at_least_two = omega (arith, one_is_small);
    no_factors = λ a b a_big b_big e.
        let g = bezout a b in
        elim (cases_lt 1 g.0) [
          | inl big ↦
              let c = product g.1.left.quotient g.1.right.quotient in
              no_square_factor fixed g.0 c big
              (common_factor a b g.0 g.1.left.quotient g.1.right.quotient (polynomial f) g.1.left.is g.1.right.is e)
          | inr small ↦
              elim (cases_lt 0 g.0) [
                | inl more ↦
                    let one : g.0 ≡ 1 = omega arith in
                    no_coprime_factors trivial a b g.1.times_a g.1.times_b a_big b_big e (sym one ∙ g.1.combination)
                | inr less ↦
                    let none : g.0 ≡ 0 = omega arith in
                    absurd (omega (arith, a_big, Divides_by_zero g.0 a none g.1.left))
              ]
        ];
  }

  pub fixes_x : IsIrreducible (polynomial f) → FrobeniusFixesX f
  fixes_x irreducible = frobenius_of_degree f h.low_below irreducible (residue f 2) (residue-below f h.low_below 2)

  pub only_trivial : IsIrreducible (polynomial f) → OnlyTrivialIdempotents f
  only_trivial irreducible a below e =
      elim (cases_lt 0 a) [
        | inl positive ↦
            let none : field_product f a (bit_xor a 1) ≡ 0 =
            field_product-xor f h.low_below a a 1
            ∙ ap (λ x. bit_xor x (field_product f a 1)) e
            ∙ ap (bit_xor a) (field_product-one f h.low_below a below)
            ∙ xor_self a in
            let other = no_zero_divisors_of_residues f h.low_below irreducible a (bit_xor a 1) below positive
            (xor_lt f.degree a 1 below one_is_small) none in
            omega (arith, same_from_xor_zero a 1 other)
        | inr less ↦ omega arith
      ]

  -- ---- the linear map from a to a·a + a, which takes the idempotent residues to 0

  pub artin_schreier-xor : (a b : ℕ) → artin_schreier f (bit_xor a b) ≡ bit_xor (artin_schreier f a) (artin_schreier f b)
  unfolding artin_schreier
  artin_schreier-xor a b =
      ap (λ x. bit_xor x (bit_xor a b)) (square-xor_residues f h.low_below a b)
      ∙ xor_xor_swap (field_product f a a) (field_product f b b) a b

  pub artin_schreier-one : artin_schreier f 1 ≡ 0
  unfolding artin_schreier
  artin_schreier-one = ap (λ x. bit_xor x 1) (field_product-one f h.low_below 1 one_is_small) ∙ xor_self 1

  pub artin_schreier-idempotent : (a : ℕ) → field_product f a a ≡ a → artin_schreier f a ≡ 0
  unfolding artin_schreier
  artin_schreier-idempotent a e = ap (λ x. bit_xor x a) e ∙ xor_self a

  pub idempotent-artin_schreier : (a : ℕ) → artin_schreier f a ≡ 0 → field_product f a a ≡ a
  unfolding artin_schreier
  idempotent-artin_schreier a none = same_from_xor_zero (field_product f a a) a none
