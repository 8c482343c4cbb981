-- The rows of a codeword, one more at a time.
use Rattle.std.proofs.Common.{◌≡◌, ℕ, zero, suc, ◌+◌, ◌*◌, ◌/◌, ◌^◌, ◌%◌, ◌<◌, ◌≤◌, List, [], ◌∷◌, ◌++◌, map, length, All, sym, ap, subst, ◌∙◌, arith, add-one}
use Rattle.std.specs.List.{range_with_len}
use Rattle.std.proofs.lemmas.List.{map-append, length-map}
use Rattle.std.proofs.lemmas.List.Elements.{All-nil, All-push}
use Rattle.std.proofs.Math.Pow.{pow_mono}
use Rattle.std.proofs.lemmas.Nat.{pow-add, pow_pos, pow_below, div_below, mul-add-lt, one_shl, shl_whole}
use Rattle.std.proofs.lemmas.List.FromFn.{map-range_with_len_more, length-map-range_with_len}
use Rattle.kk_linpoly.specs.LinPoly.{value}
use Rattle.kk_linpoly.proofs.Values.{value-lt}
use Rattle.kk_code.specs.Codeword.{Parameters, IsInRange, width, row_of, codeword}

-- the first n rows of a codeword
abbrev pub rows_below : Parameters → List ℕ → ℕ → List ℕ
rows_below p u n = map (λ a. row_of p a (value p.field u a)) (map (λ i. 2 ^ i) (range_with_len 0 n))

pub rows_more : (p : Parameters) (u : List ℕ) (n : ℕ) → rows_below p u (n + 1) ≡ rows_below p u n ++ row_of p (2 ^ n) (value p.field u (2 ^ n)) ∷ []
rows_more p u n = ap (map (λ a. row_of p a (value p.field u a))) (map-range_with_len_more (λ i. 2 ^ i) 0 n n (omega arith)) ∙ map-append (λ a. row_of p a (value p.field u a)) (map (λ i. 2 ^ i) (range_with_len 0 n)) (2 ^ n ∷ [])

pub length-rows_below : (p : Parameters) (u : List ℕ) (n : ℕ) → length (rows_below p u n) ≡ n
length-rows_below p u n =
    length-map (map (λ i. 2 ^ i) (range_with_len 0 n)) (λ a. row_of p a (value p.field u a)) ∙ length-map-range_with_len (λ i. 2 ^ i) 0 n

-- the row at evaluation point 2^i has l + m bits
pub row_below : (i l m y : ℕ) → i < l → y < 2 ^ m → 2 ^ i * 2 ^ m + y < 2 ^ (l + m)
row_below i l m y h below =
    let room : 2 ^ i * 2 ^ m + y < 2 ^ m * 2 ^ l = mul-add-lt (2 ^ i) (2 ^ m) y (2 ^ l) (pow_below i l h) below in
    let sum : l + m ≡ m + l = omega arith in
    rw (sum, pow-add 2 m l) room

-- ---- what callers know of rows and codewords

-- the x-part of a row is an element of the field
pub x_part_below : (l m row : ℕ) → l ≤ m → row < 2 ^ (l + m) → row / 2 ^ m < 2 ^ m
x_part_below l m row few below =
    omega (arith, div_below row (2 ^ m) (2 ^ l) (pow_pos m) (subst (λ n. row < n) (pow-add 2 l m) below), pow_mono few)

pub length-codeword : (p : Parameters) (u : List ℕ) → length (codeword p u) ≡ p.l
length-codeword p u = length-rows_below p u p.l

rows_are_below : (p : Parameters) (u : List ℕ) (n : ℕ) → IsInRange p → n ≤ p.l → All (λ r. r < 2 ^ width p) (rows_below p u n)
rows_are_below p u zero h few = All-nil _
rows_are_below p u (suc n) h few =
    let P : List ℕ → Type 0 = λ rows. All (λ r. r < 2 ^ width p) rows in
    let one_more : rows_below p u n ++ row_of p (2 ^ n) (value p.field u (2 ^ n)) ∷ [] ≡ rows_below p u (suc n) =
    sym (rows_more p u n) ∙ ap (rows_below p u) (add-one n) in
    subst P one_more
    (All-push (λ r. r < 2 ^ width p) (rows_below p u n) (row_of p (2 ^ n) (value p.field u (2 ^ n))) (rows_are_below p u n h (omega arith))
    (row_below n p.l p.field.degree (value p.field u (2 ^ n)) few (value-lt p.field h.low u (2 ^ n))))

-- each row of a codeword has l + m bits
pub codeword_below : (p : Parameters) (u : List ℕ) → IsInRange p → All (λ r. r < 2 ^ width p) (codeword p u)
codeword_below p u h = rows_are_below p u p.l h (omega arith)

-- ---- what the encoder computes

-- what the shift and the sum of a row compute
pub row_joined : (x y m n : ℕ) → n ≡ m → m ≤ 64 → x < 2 ^ m → y < 2 ^ m → (x * 2 ^ n % 2 ^ 128 ≡ x * 2 ^ m) × (x * 2 ^ m + y < 2 ^ 128)
row_joined x y m n same few x_below y_below =
    let room : m + m ≤ 128 = omega arith in
    let whole : 2 ^ (m + m) ≤ 2 ^ 128 = pow_mono room in
    let square : 2 ^ (m + m) ≡ 2 ^ m * 2 ^ m = pow-add 2 m m in
    let below : x * 2 ^ m + y < 2 ^ m * 2 ^ m = mul-add-lt x (2 ^ m) y (2 ^ m) x_below y_below in
    (ap (λ k. x * 2 ^ k % 2 ^ 128) same ∙ shl_whole x m m 128 x_below room, omega (arith, whole, square, below))

-- the x-part of row i
pub point_is : (p : Parameters) (i : ℕ) → IsInRange p → i < p.l → (1 * 2 ^ i % 2 ^ 64 ≡ 2 ^ i) × (2 ^ i < 2 ^ p.field.degree)
point_is p i h inside =
    let few : i < 64 = omega (arith, h.l_high, h.m_high) in
    let below : i < p.field.degree = omega (arith, h.l_high) in (one_shl i 64 few, pow_below i p.field.degree below)
