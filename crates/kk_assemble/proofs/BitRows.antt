-- Rows of bits.
use Rattle.std.proofs.Common.{◌≡◌, ℕ, ◌+◌, ◌-◌, ◌*◌, ◌^◌, ◌<◌, ◌≤◌, List, ◌++◌, length, get_or, take, drop, sym, ap, ◌∙◌, inl, inr, arith}
use Rattle.std.specs.Int.{bit_at}
use Rattle.std.proofs.Math.Seq.{take-append_seam, drop-append_seam}
use Rattle.std.proofs.lemmas.Bool.{cases_lt}
use Rattle.std.proofs.lemmas.List.{ext_get_or, length-append, get_or_append_left, get_or-append_right}
use Rattle.std.proofs.lemmas.List.FromFn.{length-map-range_with_len, get_or-map-range_with_len}
use Rattle.std.proofs.lemmas.Nat.Bits.{bit_at_cat_low, bit_at_cat_high}
use Rattle.kk_assemble.specs.Bits.{bits_of, bits_from}
use Rattle.kk_assemble.specs.FileBits.{number_from}
use Rattle.kk_assemble.proofs.Numbers.{bit_at-number_from, number_from-bit_at}

pub length-bits_of : (n x : ℕ) → length (bits_of n x) ≡ n
length-bits_of n x = length-map-range_with_len (λ i. bit_at x (n - 1 - i)) 0 n

pub length-bits_from : (bit : ℕ → ℕ) (at n : ℕ) → length (bits_from bit at n) ≡ n
length-bits_from bit at n = length-map-range_with_len bit at n

pub get_or-bits_of : (n x i : ℕ) → i < n → get_or (bits_of n x) i 0 ≡ bit_at x (n - 1 - i)
get_or-bits_of n x i below = get_or-map-range_with_len (λ i. bit_at x (n - 1 - i)) 0 n i i 0 below (omega arith)

pub get_or-bits_from : (bit : ℕ → ℕ) (at n i : ℕ) → i < n → get_or (bits_from bit at n) i 0 ≡ bit (at + i)
get_or-bits_from bit at n i below = get_or-map-range_with_len bit at n i (at + i) 0 below (omega arith)

-- the row is that of another function of the places
pub same_rows : (xs : List ℕ) (bit : ℕ → ℕ) (at n : ℕ) → length xs ≡ n → ((i : ℕ) → i < n → get_or xs i 0 ≡ bit (at + i)) → xs ≡ bits_from bit at n
same_rows xs bit at n long same =
    ext_get_or 0 xs (bits_from bit at n) (long ∙ sym (length-bits_from bit at n)) (λ i below.
    let within : i < n = omega (arith, long) in
    same i within ∙ sym (get_or-bits_from bit at n i within))

-- a row and the row after it
pub bits_from-append : (bit : ℕ → ℕ) (at a b : ℕ) → bits_from bit at a ++ bits_from bit (at + a) b ≡ bits_from bit at (a + b)
bits_from-append bit at a b =
    let xs = bits_from bit at a in
    let ys = bits_from bit (at + a) b in
    let long : length (xs ++ ys) ≡ a + b = omega (arith, length-append xs ys, length-bits_from bit at a, length-bits_from bit (at + a) b) in
    same_rows (xs ++ ys) bit at (a + b) long (λ i within. elim (cases_lt i a) [
      | inl before ↦ get_or_append_left xs ys 0 i (omega (arith, length-bits_from bit at a)) ∙ get_or-bits_from bit at a i before
      | inr after ↦
          let place : (at + a) + (i - a) ≡ at + i = omega arith in
          get_or-append_right xs ys a i 0 (length-bits_from bit at a) after
          ∙ get_or-bits_from bit (at + a) b (i - a) (omega arith)
          ∙ ap bit place
    ])

-- the bits of a number above those of another
pub bits_of-append : (a b x y : ℕ) → y < 2 ^ b → bits_of a x ++ bits_of b y ≡ bits_of (a + b) (x * 2 ^ b + y)
bits_of-append a b x y small =
    let xs = bits_of a x in
    let ys = bits_of b y in
    let z = x * 2 ^ b + y in
    let long : length (xs ++ ys) ≡ a + b = omega (arith, length-append xs ys, length-bits_of a x, length-bits_of b y) in
    same_rows (xs ++ ys) (λ i. bit_at z (a + b - 1 - i)) 0 (a + b) long (λ i within. elim (cases_lt i a) [
      | inl before ↦
          let place : a + b - 1 - i - b ≡ a - 1 - i = omega arith in
          get_or_append_left xs ys 0 i (omega (arith, length-bits_of a x))
          ∙ get_or-bits_of a x i before
          ∙ ap (bit_at x) (sym place)
          ∙ sym (bit_at_cat_high x b y (a + b - 1 - i) small (omega arith))
          ∙ ap (λ (k : ℕ). bit_at z (a + b - 1 - k)) (omega arith)
      | inr after ↦
          let place : b - 1 - (i - a) ≡ a + b - 1 - i = omega arith in
          get_or-append_right xs ys a i 0 (length-bits_of a x) after
          ∙ get_or-bits_of b y (i - a) (omega arith)
          ∙ ap (bit_at y) place
          ∙ sym (bit_at_cat_low x b y (a + b - 1 - i) (omega arith))
          ∙ ap (λ (k : ℕ). bit_at z (a + b - 1 - k)) (omega arith)
    ])

-- the bits of the number that bits make
pub bits_of-number_from : (bit : ℕ → ℕ) (at n : ℕ) → ((t : ℕ) → bit t < 2) → bits_of n (number_from bit at n) ≡ bits_from bit at n
bits_of-number_from bit at n bits =
    same_rows (bits_of n (number_from bit at n)) bit at n (length-bits_of n (number_from bit at n)) (λ i below.
    get_or-bits_of n (number_from bit at n) i below ∙ bit_at-number_from bit at n i bits below)

-- a number with these bits
pub number_of_bits : (x : ℕ) (bit : ℕ → ℕ) (at n : ℕ) → ((t : ℕ) → bit t < 2) → x < 2 ^ n → bits_of n x ≡ bits_from bit at n → x ≡ number_from bit at n
number_of_bits x bit at n bits below same =
    sym (number_from-bit_at x bit at n bits below (λ i within.
    sym (get_or-bits_from bit at n i within) ∙ sym (ap (λ (row : List ℕ). get_or row i 0) same) ∙ get_or-bits_of n x i within))

-- the first n bits of a row, and those that are left
pub first_bits :
    (x : ℕ) (left : List ℕ) (bit : ℕ → ℕ) (at n len : ℕ) → ((t : ℕ) → bit t < 2) → x < 2 ^ n → n ≤ len → bits_from bit at len ≡ bits_of n x ++ left
    → (x ≡ number_from bit at n) × (left ≡ bits_from bit (at + n) (len - n))
first_bits x left bit at n len bits below few same =
    let xs = bits_from bit at n in
    let ys = bits_from bit (at + n) (len - n) in
    let whole : n + (len - n) ≡ len = omega arith in
    let cut : xs ++ ys ≡ bits_of n x ++ left = bits_from-append bit at n (len - n) ∙ ap (bits_from bit at) whole ∙ same in
    let first : xs ≡ bits_of n x =
    sym (take-append_seam xs ys) ∙ ap (λ (k : ℕ). take k (xs ++ ys)) (length-bits_from bit at n) ∙ ap (take n) cut
    ∙ ap (λ (k : ℕ). take k (bits_of n x ++ left)) (sym (length-bits_of n x)) ∙ take-append_seam (bits_of n x) left in
    let second : ys ≡ left =
    sym (drop-append_seam xs ys) ∙ ap (λ (k : ℕ). drop k (xs ++ ys)) (length-bits_from bit at n) ∙ ap (drop n) cut
    ∙ ap (λ (k : ℕ). drop k (bits_of n x ++ left)) (sym (length-bits_of n x)) ∙ drop-append_seam (bits_of n x) left in
    (number_of_bits x bit at n bits below (sym first), sym second)
