-- What the bytes of a number find in a table, and a table by the images of the powers of 2.
use Rattle.std.proofs.Common.{◌≡◌, ℕ, zero, suc, ◌+◌, ◌-◌, ◌*◌, ◌/◌, ◌%◌, ◌^◌, ◌<◌, ◌≤◌, List, bit_xor, slice_index, replicate, refl, sym, ap, ap₂, ◌∙◌, add-one, arith}
use Rattle.std.proofs.Math.Nat.{div-one, div-eq_of_lt, mul-one, zero-mul}
use Rattle.std.proofs.lemmas.Nat.{pow-add, xor_block}
use Rattle.std.specs.Int.Bits.{xor_zero_l, xor_zero_r}
use Rattle.kk_field.proofs.Sums.{xor_shl}
use Rattle.kk_field.proofs.Elimination.{slice_index-zeros}
use Rattle.kk_rows.specs.AdditiveMap.{IsAdditive}
use Rattle.kk_rows.proofs.AdditiveMaps.{additive-zero}
use Rattle.kk_tables.specs.Tables.{IsTableOf, byte_at, looked_up}
use Rattle.kk_tables.proofs.ByteImages.{byte_down, look_up_next, in_byte}

-- ---- look-ups

pub looked_up-none : (table : List ℕ) (x : ℕ) → looked_up table 0 x ≡ 0
unfolding looked_up
looked_up-none table x = refl

looked_up-suc : (table : List ℕ) (n x : ℕ)
    → looked_up table (suc n) x ≡ bit_xor (looked_up table n x) (slice_index table (256 * n + x / 2 ^ (8 * n) % 256))
unfolding looked_up
looked_up-suc table n x = refl

pub looked_up-more : (table : List ℕ) (n x : ℕ)
    → looked_up table (n + 1) x ≡ bit_xor (looked_up table n x) (slice_index table (256 * n + x / 2 ^ (8 * n) % 256))
looked_up-more table n x = ap (λ k. looked_up table k x) (add-one n) ∙ looked_up-suc table n x

module _ (image : ℕ → ℕ) (table : List ℕ) (additive : IsAdditive image) (t : IsTableOf image table) (x : ℕ) where
  -- the lowest n bytes apart
  apart_from : (n : ℕ) → n ≤ 8 → image x ≡ bit_xor (looked_up table n x) (image (x / 2 ^ (8 * n) * 2 ^ (8 * n)))
  apart_from zero few =
      sym (ap₂ bit_xor (looked_up-none table x) (ap image (mul-one (x / 1) ∙ div-one x)) ∙ xor_zero_l (image x))
  apart_from (suc n) few =
      let before = apart_from n (omega (arith, few)) in
      let next = look_up_next image table additive t x (looked_up table n x) (x / 2 ^ (8 * n)) n (omega (arith, few)) before in
      next
      ∙ ap₂ bit_xor (sym (looked_up-suc table n x))
      (ap₂ (λ a k. image (a * 2 ^ (8 * k))) (byte_down x n) (add-one n) ∙ ap (λ k. image (x / 2 ^ (8 * k) * 2 ^ (8 * suc n))) (add-one n))

  pub looked_up-image : x < 2 ^ 64 → looked_up table 8 x ≡ image x
  looked_up-image below =
      let none : image (x / 2 ^ (8 * 8) * 2 ^ (8 * 8)) ≡ 0 =
      ap (λ q. image (q * 2 ^ (8 * 8))) (div-eq_of_lt below) ∙ ap image (zero-mul (2 ^ (8 * 8))) ∙ additive-zero image additive in
      sym (apart_from 8 (omega arith) ∙ ap (bit_xor (looked_up table 8 x)) none ∙ xor_zero_r (looked_up table 8 x))

-- all entries are 0
pub looked_up-zeros : (len n x : ℕ) → looked_up (replicate len 0) n x ≡ 0
looked_up-zeros len zero x = looked_up-none (replicate len 0) x
looked_up-zeros len (suc n) x =
    looked_up-suc (replicate len 0) n x
    ∙ ap₂ bit_xor (looked_up-zeros len n x) (slice_index-zeros len (256 * n + x / 2 ^ (8 * n) % 256)) ∙ xor_zero_l 0

-- ---- an entry by its highest bit

top_apart : (v t : ℕ) → 2 ^ t ≤ v → v < 2 * 2 ^ t → bit_xor (2 ^ t) (v - 2 ^ t) ≡ v
top_apart v t at_least below =
    let small : v - 2 ^ t < 2 ^ t = omega (arith, at_least, below) in
    let left : 2 ^ t ≡ 1 * 2 ^ t + 0 = omega arith in
    let right : v - 2 ^ t ≡ 0 * 2 ^ t + (v - 2 ^ t) = omega arith in
    ap₂ bit_xor left right ∙ xor_block t 1 0 0 (v - 2 ^ t) (omega (arith, small)) small
    ∙ ap₂ (λ a b. a * 2 ^ t + b) (xor_zero_r 1) (xor_zero_l (v - 2 ^ t)) ∙ omega (arith, at_least)

-- the byte of entry n, by its highest bit and the byte without it
pub byte_at-top : (n t : ℕ) → 2 ^ t ≤ n % 256 → n % 256 < 2 * 2 ^ t → bit_xor (2 ^ (8 * (n / 256) + t)) (byte_at (n - 2 ^ t)) ≡ byte_at n
byte_at-top n t at_least below =
    let v = n % 256 in
    let s = 8 * (n / 256) in
    let place : n - 2 ^ t ≡ n - v + (v - 2 ^ t) = omega (arith, at_least) in
    let unit : 2 ^ (s + t) ≡ 2 ^ t * 2 ^ s = ap (λ k. 2 ^ k) (omega arith) ∙ pow-add 2 t s in
    ap₂ bit_xor unit (ap byte_at place ∙ in_byte n (v - 2 ^ t) (omega arith))
    ∙ sym (xor_shl (2 ^ t) (v - 2 ^ t) s) ∙ ap (λ a. a * 2 ^ s) (top_apart v t at_least below)
