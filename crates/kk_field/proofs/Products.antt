-- Laws of the carry-less product: polynomials over GF(2) are a commutative ring.
use Rattle.std.proofs.Common.{◌≡◌, ℕ, zero, suc, ◌+◌, ◌-◌, ◌*◌, ◌/◌, ◌%◌, ◌^◌, ◌<◌, bit_xor, refl, sym, ap, ◌∙◌, arith, inl, inr}
use Rattle.std.proofs.Math.Nat.{pow-suc, zero-mul, one-mul, mul-one, mul-zero, mul_assoc, add-zero, add-suc}
use Rattle.std.proofs.Math.Arith.{bin_ind}
use Rattle.std.proofs.lemmas.Bool.{cases_lt}
use Rattle.std.specs.Int.Bits.{xor_zero_r, xor_assoc, xor_comm}
use Rattle.std.specs.Int.{bit_at}
use Rattle.std.proofs.lemmas.Nat.Bits.{bit_at-suc, bit_at_lowest, bit_at_above}
use Rattle.kk_field.proofs.Sums.{sums, xor_shl, xor_double, xor_half, xor_xor_swap, xor_left_comm, digit-xor, xor_digits, by_digits, digit_cases}
use Rattle.kk_field.specs.Polynomial.{product, product_below}

-- ---- the sum of shifted terms, digit by digit

-- a term of the sum, one place up
term_up : (c a n : ℕ) → c * (a * 2 ^ suc n) ≡ c * (a * 2 ^ n) * 2
term_up c a n = rw (pow-suc 2 n) (simp mul_assoc)

-- the lowest digit of b apart
pub product_below-suc : (a b n : ℕ) → product_below a b (suc n) ≡ bit_xor (b % 2 * a) (product_below a (b / 2) n * 2)
unfolding product_below
product_below-suc a b zero = rw bit_at_lowest (simp (mul-one, zero-mul, xor_zero_r))
product_below-suc a b (suc n) =
    let low = b % 2 * a in
    let rest = product_below a (b / 2) n in
    let top = bit_at (b / 2) n * (a * 2 ^ n) in
    let next : bit_at b (suc n) * (a * 2 ^ suc n) ≡ top * 2 = rw bit_at-suc (term_up (bit_at (b / 2) n) a n) in
    ap (λ x. bit_xor x (bit_at b (suc n) * (a * 2 ^ suc n))) (product_below-suc a b n)
    ∙ xor_assoc low (rest * 2) (bit_at b (suc n) * (a * 2 ^ suc n))
    ∙ ap (λ x. bit_xor low (bit_xor (rest * 2) x)) next
    ∙ ap (bit_xor low) (sym (xor_double rest top))

-- b has no digits from place n on
pub product_below-add : (a b n k : ℕ) → b < 2 ^ n → product_below a b (n + k) ≡ product_below a b n
unfolding product_below
product_below-add a b n zero h = simp add-zero
product_below-add a b n (suc k) h =
    rw (add-suc n k)
    (ap (λ c. bit_xor (product_below a b (n + k)) (c * (a * 2 ^ (n + k)))) (bit_at_above b n (n + k) h (omega arith))
    ∙ simp (zero-mul, xor_zero_r) (product_below-add a b n k h))

pub below_own_power : (b : ℕ) → b < 2 ^ b
below_own_power zero = omega arith
below_own_power (suc b) = omega (arith, below_own_power b, pow-suc 2 b)

-- a bound on b's digits is as good as b
pub product_below-product : (a b n : ℕ) → b < 2 ^ n → product_below a b n ≡ product a b
unfolding product
product_below-product a b n h =
    elim (cases_lt n b) [
      | inl n_first ↦ let k : (k : ℕ) × (b ≡ n + k) = (b - n, omega arith) in
          sym (product_below-add a b n k.0 h) ∙ sym (ap (product_below a b) k.1)
      | inr b_first ↦ let k : (k : ℕ) × (n ≡ b + k) = (n - b, omega arith) in
          ap (product_below a b) k.1 ∙ product_below-add a b b k.0 (below_own_power b)
    ]

-- the lowest digit of b apart
pub product-digit : (a b : ℕ) → product a b ≡ bit_xor (b % 2 * a) (product a (b / 2) * 2)
product-digit a b =
    sym (product_below-product a b (suc b) (omega (arith, below_own_power b, pow-suc 2 b)))
    ∙ product_below-suc a b b
    ∙ ap (λ x. bit_xor (b % 2 * a) (x * 2)) (product_below-product a (b / 2) b (omega (arith, below_own_power b)))

-- ---- zero and one

pub product-zero : (a : ℕ) → product a 0 ≡ 0
unfolding product product_below
product-zero a = refl

pub product-one : (a : ℕ) → product a 1 ≡ a
product-one a = product-digit a 1 ∙ simp (one-mul, product-zero, zero-mul, xor_zero_r)

pub zero-product : (b : ℕ) → product 0 b ≡ 0
zero-product = bin_ind (λ b. product 0 b ≡ 0) (product-zero 0) (λ b ih. product-digit 0 b ∙ rw ih (simp (mul-zero, zero-mul)))

pub one-product : (b : ℕ) → product 1 b ≡ b
one-product = bin_ind (λ b. product 1 b ≡ b) (product-zero 1) (λ b ih. product-digit 1 b ∙ rw ih (simp mul-one (xor_comm (b % 2) (b / 2 * 2) ∙ by_digits b)))

-- ---- it is linear in each factor

pub xor-product : (a b c : ℕ) → product (bit_xor a b) c ≡ bit_xor (product a c) (product b c)
xor-product a b =
    bin_ind (λ c. product (bit_xor a b) c ≡ bit_xor (product a c) (product b c)) (simp product-zero)
    (λ c ih.
    product-digit (bit_xor a b) c
    ∙ ap (λ x. bit_xor (c % 2 * bit_xor a b) (x * 2)) ih
    ∙ ap (λ x. bit_xor (c % 2 * bit_xor a b) x) (xor_double (product a (c / 2)) (product b (c / 2)))
    ∙ ap (λ x. bit_xor x (bit_xor (product a (c / 2) * 2) (product b (c / 2) * 2))) (digit-xor c a b)
    ∙ xor_xor_swap (c % 2 * a) (c % 2 * b) (product a (c / 2) * 2) (product b (c / 2) * 2)
    ∙ sym (ap (λ x. bit_xor x (bit_xor (c % 2 * b) (product b (c / 2) * 2))) (product-digit a c))
    ∙ sym (ap (λ x. bit_xor (product a c) x) (product-digit b c)))

pub product-xor : (a b c : ℕ) → product a (bit_xor b c) ≡ bit_xor (product a b) (product a c)
product-xor a =
    bin_ind (λ b. (c : ℕ) → product a (bit_xor b c) ≡ bit_xor (product a b) (product a c)) (λ c. simp product-zero)
    (λ b ih c.
    product-digit a (bit_xor b c)
    ∙ ap (λ x. bit_xor (bit_xor b c % 2 * a) (product a x * 2)) (xor_half b c)
    ∙ ap (λ x. bit_xor (bit_xor b c % 2 * a) (x * 2)) (ih (c / 2))
    ∙ ap (λ x. bit_xor (bit_xor b c % 2 * a) x) (xor_double (product a (b / 2)) (product a (c / 2)))
    ∙ ap (λ x. bit_xor x (bit_xor (product a (b / 2) * 2) (product a (c / 2) * 2))) (xor_digits b c a)
    ∙ xor_xor_swap (b % 2 * a) (c % 2 * a) (product a (b / 2) * 2) (product a (c / 2) * 2)
    ∙ sym (ap (λ x. bit_xor x (bit_xor (c % 2 * a) (product a (c / 2) * 2))) (product-digit a b))
    ∙ sym (ap (λ x. bit_xor (product a b) x) (product-digit a c)))

-- ---- multiplication by X

half_of_double : (b : ℕ) → b * 2 / 2 ≡ b
half_of_double b = omega arith

pub product-double : (a b : ℕ) → product a (b * 2) ≡ product a b * 2
product-double a b =
    product-digit a (b * 2)
    ∙ (let even : b * 2 % 2 ≡ 0 = omega arith in rw (even, half_of_double b) (simp zero-mul))

pub double-product : (a b : ℕ) → product (a * 2) b ≡ product a b * 2
double-product a =
    bin_ind (λ b. product (a * 2) b ≡ product a b * 2) (simp product-zero)
    (λ b ih.
    product-digit (a * 2) b
    ∙ ap (λ x. bit_xor (b % 2 * (a * 2)) (x * 2)) ih
    ∙ ap (λ x. bit_xor x (product a (b / 2) * 2 * 2)) (sym (mul_assoc (b % 2) a 2))
    ∙ sym (xor_double (b % 2 * a) (product a (b / 2) * 2))
    ∙ sym (ap (λ x. x * 2) (product-digit a b)))

digit-product : (n b : ℕ) → product (n % 2) b ≡ n % 2 * b
digit-product n b =
    elim (digit_cases n) [ inl e ↦ rw e (simp (zero-product, zero-mul)) | inr e ↦ rw e (simp (one-product, one-mul)) ]

-- ---- commutative, associative

pub product_comm : (a b : ℕ) → product a b ≡ product b a
product_comm a =
    bin_ind (λ b. product a b ≡ product b a) (product-zero a ∙ sym (zero-product a))
    (λ b ih.
    product-digit a b
    ∙ ap (λ x. bit_xor (b % 2 * a) (x * 2)) ih
    ∙ ap (λ x. bit_xor (b % 2 * a) x) (sym (double-product (b / 2) a))
    ∙ ap (λ x. bit_xor x (product (b / 2 * 2) a)) (sym (digit-product b a))
    ∙ sym (xor-product (b % 2) (b / 2 * 2) a)
    ∙ ap (λ x. product x a) (xor_comm (b % 2) (b / 2 * 2) ∙ by_digits b))

product-digit_of : (a b n : ℕ) → product a (n % 2 * b) ≡ n % 2 * product a b
product-digit_of a b n =
    elim (digit_cases n) [ inl e ↦ rw e (simp (zero-mul, product-zero)) | inr e ↦ rw e (simp one-mul) ]

pub product_assoc : (a b c : ℕ) → product (product a b) c ≡ product a (product b c)
product_assoc a b =
    bin_ind (λ c. product (product a b) c ≡ product a (product b c)) (simp product-zero)
    (λ c ih.
    product-digit (product a b) c
    ∙ ap (λ x. bit_xor (c % 2 * product a b) (x * 2)) ih
    ∙ ap (λ x. bit_xor (c % 2 * product a b) x) (sym (product-double a (product b (c / 2))))
    ∙ ap (λ x. bit_xor x (product a (product b (c / 2) * 2))) (sym (product-digit_of a b c))
    ∙ sym (product-xor a (c % 2 * b) (product b (c / 2) * 2))
    ∙ sym (ap (product a) (product-digit b c)))

pub product_left_comm : (a b c : ℕ) → product a (product b c) ≡ product b (product a c)
product_left_comm a b c = sym (product_assoc a b c) ∙ ap (λ x. product x c) (product_comm a b) ∙ product_assoc b a c

-- equal up to the laws of a commutative ring of characteristic 2
pub ruleset products = (sums, product-xor, xor-product, product_assoc, product_comm, product_left_comm, product-one, one-product, product-zero, zero-product)

-- ---- powers of X

pub product-pow : (a k : ℕ) → product a (2 ^ k) ≡ a * 2 ^ k
product-pow a zero = product-one a ∙ sym (mul-one a)
product-pow a (suc k) = rw (pow-suc 2 k) (product-double a (2 ^ k) ∙ ap (λ x. x * 2) (product-pow a k) ∙ mul_assoc a (2 ^ k) 2)

pub shl-product : (a k b : ℕ) → product (a * 2 ^ k) b ≡ product a b * 2 ^ k
shl-product a k b =
    ap (λ x. product x b) (sym (product-pow a k)) ∙ product_assoc a (2 ^ k) b ∙ ap (product a) (product_comm (2 ^ k) b)
    ∙ sym (product_assoc a b (2 ^ k)) ∙ product-pow (product a b) k

-- a square has the terms of its root, at twice the places: the cross terms cancel
pub square-xor : (a b : ℕ) → product (bit_xor a b) (bit_xor a b) ≡ bit_xor (product a a) (product b b)
square-xor a b = simp products
