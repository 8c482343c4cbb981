-- Carry-less products by windows: bounds, and a digit of four bits apart.
use Rattle.std.proofs.Common.{◌≡◌, ℕ, zero, suc, ◌+◌, ◌*◌, ◌/◌, ◌%◌, ◌^◌, ◌<◌, ◌≤◌, bit_xor, sym, ap, ◌∙◌, arith, inl, inr}
use Rattle.std.proofs.Math.Nat.{pow-suc, zero-mul, one-mul, add-zero, add-suc, mod-lt, mod-eq_of_lt, div-add-mod', div-div-eq-div-mul}
use Rattle.std.proofs.Math.Pow.{pow_pos, pow_mono, shr_lt}
use Rattle.std.proofs.lemmas.Nat.{pow-add}
use Rattle.std.specs.Int.Bits.{xor_zero_r, xor_comm, xor_lt, xor_shifted}
use Rattle.kk_field.proofs.Sums.{digit_cases}
use Rattle.kk_field.proofs.Products.{product-digit, product-zero, product-xor, product_comm, shl-product}
use Rattle.kk_field.specs.Polynomial.{product}

digit_times : (a b j : ℕ) → a < 2 ^ j → b % 2 * a < 2 ^ j
digit_times a b j ha = elim (digit_cases b) [ inl e ↦ rw (e, zero-mul a) (pow_pos j) | inr e ↦ rw (e, one-mul a) ha ]

-- a bound on a product
pub product-lt : (j a b k : ℕ) → a < 2 ^ j → b < 2 ^ suc k → product a b < 2 ^ (j + k)
product-lt j a b zero ha hb =
    let below : b < 2 = hb in
    let e : b / 2 ≡ 0 = omega (arith, below) in
    rw (product-digit a b, e, product-zero a, zero-mul 2, xor_zero_r (b % 2 * a), add-zero j) (digit_times a b j ha)
product-lt j a b (suc k) ha hb =
    let half : b / 2 < 2 ^ suc k = omega (arith, hb, pow-suc 2 (suc k)) in
    let ih = product-lt j a (b / 2) k ha half in
    let le : j ≤ j + suc k = omega arith in
    let powers : 2 ^ j ≤ 2 ^ (j + suc k) = pow_mono le in
    let low : b % 2 * a < 2 ^ (j + suc k) = omega (arith, digit_times a b j ha, powers) in
    let up : product a (b / 2) * 2 < 2 ^ (j + suc k) = rw (add-suc j k) (omega (arith, ih, pow-suc 2 (j + k))) in
    rw (product-digit a b) (xor_lt (j + suc k) (b % 2 * a) (product a (b / 2) * 2) low up)

-- the lowest k digits of x apart
pub by_places : (x k : ℕ) → bit_xor (x / 2 ^ k * 2 ^ k) (x % 2 ^ k) ≡ x
by_places x k = xor_shifted (x / 2 ^ k) k (x % 2 ^ k) (mod-lt x (pow_pos k)) ∙ div-add-mod' x (2 ^ k)

product-shl : (a k b : ℕ) → product a (b * 2 ^ k) ≡ product a b * 2 ^ k
product-shl a k b = product_comm a (b * 2 ^ k) ∙ shl-product b k a ∙ ap (λ x. x * 2 ^ k) (product_comm b a)

product-places : (a x k : ℕ) → product a x ≡ bit_xor (product a (x / 2 ^ k) * 2 ^ k) (product a (x % 2 ^ k))
product-places a x k =
    ap (product a) (sym (by_places x k))
    ∙ product-xor a (x / 2 ^ k * 2 ^ k) (x % 2 ^ k)
    ∙ ap (λ y. bit_xor y (product a (x % 2 ^ k))) (product-shl a k (x / 2 ^ k))

-- the next digit of four bits
pub digit_next : (a b s sum : ℕ) → sum ≡ product a (b / 2 ^ (s + 4)) → bit_xor (sum * 16) (product a (b / 2 ^ s % 16)) ≡ product a (b / 2 ^ s)
digit_next a b s sum e =
    let down : b / 2 ^ s / 2 ^ 4 ≡ b / 2 ^ (s + 4) = div-div-eq-div-mul b (2 ^ s) (2 ^ 4) ∙ ap (λ n. b / n) (sym (pow-add 2 s 4)) in
    sym (product-places a (b / 2 ^ s) 4 ∙ ap (λ q. bit_xor (product a q * 2 ^ 4) (product a (b / 2 ^ s % 2 ^ 4))) down
    ∙ ap (λ y. bit_xor (y * 2 ^ 4) (product a (b / 2 ^ s % 2 ^ 4))) (sym e))

-- ---- in words of 64 and of 128 bits

pub narrow_entry : (a j t odd : ℕ) → a < 2 ^ 60 → j < 16 → t ≡ product a (j / 2) → odd ≡ j % 2 * a
    → bit_xor (t * 2 % 18446744073709551616) odd ≡ product a j
narrow_entry a j t odd ha hj et eo =
    let half : j / 2 < 2 ^ suc 2 = omega (arith, hj) in
    let small : t < 2 ^ 62 = rw et (product-lt 60 a (j / 2) 2 ha half) in
    let fits : t * 2 < 18446744073709551616 = omega (arith, small) in
    rw (mod-eq_of_lt fits, et, eo, xor_comm (product a (j / 2) * 2) (j % 2 * a)) (sym (product-digit a j))

pub wide_entry : (a j t odd : ℕ) → a < 2 ^ 64 → j < 16 → t ≡ product a (j / 2) → odd ≡ j % 2 * a
    → bit_xor (t * 2 % 340282366920938463463374607431768211456) odd ≡ product a j
wide_entry a j t odd ha hj et eo =
    let half : j / 2 < 2 ^ suc 2 = omega (arith, hj) in
    let small : t < 2 ^ 66 = rw et (product-lt 64 a (j / 2) 2 ha half) in
    let fits : t * 2 < 340282366920938463463374607431768211456 = omega (arith, small) in
    rw (mod-eq_of_lt fits, et, eo, xor_comm (product a (j / 2) * 2) (j % 2 * a)) (sym (product-digit a j))

pub narrow_digit : (a b s sum : ℕ) → a < 2 ^ 32 → b < 2 ^ 32 → s ≤ 28 → sum ≡ product a (b / 2 ^ (s + 4))
    → bit_xor (sum * 16 % 18446744073709551616) (product a (b / 2 ^ s % 16)) ≡ product a (b / 2 ^ s)
narrow_digit a b s sum ha hb hs e =
    let more : 32 ≤ 28 + (s + 4) = omega arith in
    let powers : 2 ^ 32 ≤ 2 ^ (28 + (s + 4)) = pow_mono more in
    let small : b / 2 ^ (s + 4) < 2 ^ suc 27 = shr_lt 28 (s + 4) (omega (arith, hb, powers)) in
    let bound : sum < 2 ^ 59 = rw e (product-lt 32 a (b / 2 ^ (s + 4)) 27 ha small) in
    let fits : sum * 16 < 18446744073709551616 = omega (arith, bound) in
    rw (mod-eq_of_lt fits) (digit_next a b s sum e)

pub wide_digit : (a b s sum : ℕ) → a < 2 ^ 64 → b < 2 ^ 64 → s ≤ 60 → sum ≡ product a (b / 2 ^ (s + 4))
    → bit_xor (sum * 16 % 340282366920938463463374607431768211456) (product a (b / 2 ^ s % 16)) ≡ product a (b / 2 ^ s)
wide_digit a b s sum ha hb hs e =
    let more : 64 ≤ 60 + (s + 4) = omega arith in
    let powers : 2 ^ 64 ≤ 2 ^ (60 + (s + 4)) = pow_mono more in
    let small : b / 2 ^ (s + 4) < 2 ^ suc 59 = shr_lt 60 (s + 4) (omega (arith, hb, powers)) in
    let bound : sum < 2 ^ 123 = rw e (product-lt 64 a (b / 2 ^ (s + 4)) 59 ha small) in
    let fits : sum * 16 < 340282366920938463463374607431768211456 = omega (arith, bound) in
    rw (mod-eq_of_lt fits) (digit_next a b s sum e)
