-- Words of eight bytes, written into a file.
use Rattle.std.proofs.Common.{◌≡◌, ℕ, zero, suc, ◌+◌, ◌-◌, ◌*◌, ◌/◌, ◌%◌, ◌^◌, ◌<◌, ◌≤◌, List, ◌++◌, length, get_or, take, drop, sym, ap, ◌∙◌, inl, inr, refl, arith}
use Rattle.std.specs.Int.{w64, to_be_bytes, bytes_high_first, byte_at}
use Rattle.std.proofs.Math.Nat.{div-one, pow-suc}
use Rattle.std.proofs.lemmas.Bool.{cases_lt}
use Rattle.std.proofs.lemmas.List.{get_or_append_left, get_or-append_right, get_or-take, length-append, length-drop, length-take-le}
use Rattle.std.proofs.lemmas.Nat.{pow-add, div-mul-add, mod-mul-add}
use borrow.Rule.Slice.PartMut.{put_mid, post_of}
use Rattle.kk_assemble.specs.FileBits.{number_from}
use Rattle.kk_assemble.proofs.Numbers.{number_from_below, number_from-append}

-- a power of 256
power_of_bytes : (i : ℕ) → 256 ^ i ≡ 2 ^ (8 * i)
power_of_bytes zero = refl
power_of_bytes (suc i) =
    let more : 8 * suc i ≡ 8 * i + 8 = omega arith in
    pow-suc 256 i ∙ ap (λ (x : ℕ). x * 256) (power_of_bytes i) ∙ sym (pow-add 2 (8 * i) 8) ∙ ap (λ (n : ℕ). 2 ^ n) (sym more)

-- byte i of a number, the lowest first
byte_by_bits : (i n : ℕ) → byte_at i n ≡ n / 2 ^ (8 * i) % 256
byte_by_bits zero n = ap (λ (x : ℕ). x % 256) (sym (div-one n))
byte_by_bits (suc i) n = ap (λ (x : ℕ). n / x % 256) (power_of_bytes (suc i))

-- byte j of k bytes, the highest first
byte_from_high : (k n j : ℕ) → j < k → get_or (bytes_high_first k n) j 0 ≡ n / 2 ^ (8 * (k - 1 - j)) % 256
byte_from_high zero n j below = absurd (omega arith)
byte_from_high (suc k) n zero below =
    let place : suc k - 1 - 0 ≡ k = omega arith in
    byte_by_bits k n ∙ ap (λ (i : ℕ). n / 2 ^ (8 * i) % 256) (sym place)
byte_from_high (suc k) n (suc j) below =
    let place : suc k - 1 - suc j ≡ k - 1 - j = omega arith in
    byte_from_high k n j (omega arith) ∙ ap (λ (i : ℕ). n / 2 ^ (8 * i) % 256) (sym place)

-- eight bits between others
byte_between : (bit : ℕ → ℕ) (at a b : ℕ) → ((t : ℕ) → bit t < 2) → number_from bit at ((a + 8) + b) / 2 ^ b % 256 ≡ number_from bit (at + a) 8
byte_between bit at a b bits =
    ap (λ (x : ℕ). x / 2 ^ b % 256) (number_from-append bit at (a + 8) b)
    ∙ ap (λ (x : ℕ). x % 256) (div-mul-add (number_from bit at (a + 8)) (2 ^ b) (number_from bit (at + (a + 8)) b) (number_from_below bit (at + (a + 8)) b bits))
    ∙ ap (λ (x : ℕ). x % 256) (number_from-append bit at a 8)
    ∙ mod-mul-add (number_from bit at a) 256 (number_from bit (at + a) 8) (number_from_below bit (at + a) 8 bits)

-- byte j of a word, by its bits
pub byte_of_word :
    (bit : ℕ → ℕ) (at word j : ℕ) → ((t : ℕ) → bit t < 2) → word ≡ number_from bit at 64 → j < 8 → get_or (to_be_bytes w64 word) j 0 ≡ number_from bit (at + 8 * j) 8
byte_of_word bit at word j bits is below =
    let whole : 64 ≡ (8 * j + 8) + 8 * (7 - j) = omega arith in
    byte_from_high 8 word j below
    ∙ ap (λ (x : ℕ). x / 2 ^ (8 * (7 - j)) % 256) (is ∙ ap (number_from bit at) whole)
    ∙ byte_between bit at (8 * j) (8 * (7 - j)) bits

-- a file that has the bytes before byte a, after those from byte a on are written
pub written :
    (byte : ℕ → ℕ) (a k : ℕ) (xs ys : List ℕ) → a ≤ length xs → ((j : ℕ) → j < a → get_or xs j 0 ≡ byte j) → ((j : ℕ) → j < length ys → get_or ys j 0 ≡ byte (a + j))
    → (j : ℕ) → j < a + length ys → get_or (put_mid a k xs ys) j 0 ≡ byte j
written byte a k xs ys room before here j below =
    let front : length (take a xs) ≡ a = length-take-le a xs room in
    elim (cases_lt j a) [
      | inl early ↦ get_or_append_left (take a xs) (ys ++ post_of a k xs) 0 j (omega (arith, front)) ∙ get_or-take a xs j 0 early ∙ before j early
      | inr late ↦
          let place : a + (j - a) ≡ j = omega arith in
          get_or-append_right (take a xs) (ys ++ post_of a k xs) a j 0 front late
          ∙ get_or_append_left ys (post_of a k xs) 0 (j - a) (omega arith)
          ∙ here (j - a) (omega arith)
          ∙ ap byte place
    ]

-- the file keeps its length
pub length-written : (a k : ℕ) (xs ys : List ℕ) → a + k ≤ length xs → length ys ≡ k → length (put_mid a k xs ys) ≡ length xs
length-written a k xs ys room long =
    omega (arith, length-append (take a xs) (ys ++ post_of a k xs), length-append ys (post_of a k xs), length-take-le a xs (omega arith), length-drop k (drop a xs), length-drop a xs)
