-- The number by which a queue of bits is kept.
use Rattle.std.proofs.Common.{◌≡◌, ℕ, ◌+◌, ◌-◌, ◌*◌, ◌/◌, ◌%◌, ◌^◌, ◌<◌, ◌≤◌, ◌++◌, sym, ap, ◌∙◌, arith}
use Rattle.std.proofs.Math.Nat.{mod-eq_of_lt}
use Rattle.std.proofs.Math.Pow.{pow_mono, pow-lt}
use Rattle.std.proofs.lemmas.Nat.{pow-add, pow_pos, row_fits, div_below, mod_below, div-add-mod'}
use Rattle.kk_assemble.specs.Bits.{bits_of}
use Rattle.kk_assemble.proofs.BitRows.{bits_of-append}

-- n bits after len bits make a number of len + n bits
pub pushed_below : (bits len number n : ℕ) → bits < 2 ^ len → number < 2 ^ n → bits * 2 ^ n + number < 2 ^ (len + n)
pushed_below bits len number n before below =
    omega (arith, pow-add 2 len n, row_fits bits (2 ^ n) (2 ^ len) (2 ^ n) before (omega arith))

-- no bit is lost where they are fewer than 128
pub pushed_whole : (bits len number n : ℕ) → bits < 2 ^ len → number < 2 ^ n → len + n < 128 → bits * 2 ^ n % 2 ^ 128 ≡ bits * 2 ^ n
pushed_whole bits len number n before below room =
    let most : 2 ^ (len + n) ≤ 2 ^ 128 = pow_mono {i = len + n} {j = 128} (omega arith) in
    mod-eq_of_lt (omega (arith, pushed_below bits len number n before below))

-- a power of 2 below 2^128 fits 128 bits
pub power_whole : (n : ℕ) → n < 128 → 1 * 2 ^ n % 2 ^ 128 ≡ 2 ^ n
power_whole n few =
    let most : 2 ^ n < 2 ^ 128 = pow-lt few in
    let one : 1 * 2 ^ n ≡ 2 ^ n = omega arith in
    ap (λ (x : ℕ). x % 2 ^ 128) one ∙ mod-eq_of_lt most

-- the first n of len bits make a number below 2^n
pub taken_below : (bits len n : ℕ) → bits < 2 ^ len → n ≤ len → bits / 2 ^ (len - n) < 2 ^ n
taken_below bits len n all few =
    let whole : n + (len - n) ≡ len = omega arith in
    let power : 2 ^ n * 2 ^ (len - n) ≡ 2 ^ len = sym (pow-add 2 n (len - n)) ∙ ap (λ (k : ℕ). 2 ^ k) whole in
    div_below bits (2 ^ (len - n)) (2 ^ n) (pow_pos (len - n)) (omega (arith, power))

-- the first n of len bits, and those that are left
pub taken_bits : (bits len n : ℕ) → n ≤ len → bits_of len bits ≡ bits_of n (bits / 2 ^ (len - n)) ++ bits_of (len - n) (bits % 2 ^ (len - n))
taken_bits bits len n few =
    let left = len - n in
    let whole : len ≡ n + left = omega arith in
    ap (bits_of len) (sym (div-add-mod' bits (2 ^ left)))
    ∙ ap (λ (k : ℕ). bits_of k (bits / 2 ^ left * 2 ^ left + bits % 2 ^ left)) whole
    ∙ sym (bits_of-append n left (bits / 2 ^ left) (bits % 2 ^ left) (mod_below bits (2 ^ left) (pow_pos left)))
