-- The rows of a space and what is 0 on them.
use Rattle.std.proofs.Common.{◌≡◌, ℕ, add-one, ◌+◌, ◌-◌, ◌*◌, ◌/◌, ◌%◌, ◌^◌, ◌<◌, ◌≤◌, List, [], ◌∷◌, ◌++◌, map, length, take, drop, take-append-drop, sym, ap, ap₂, ◌∙◌, subst, bit_xor, arith}
use Rattle.std.specs.Prelude.{All}
use Rattle.std.proofs.Math.Nat.{zero-div, zero-mod, lt-mul-div-succ, two-pow-succ}
use Rattle.std.specs.Int.Bits.{xor_zero_l}
use Rattle.std.proofs.lemmas.Nat.{pow_pos, mul-le, xor_shr, xor_mod}
use Rattle.std.proofs.lemmas.List.Elements.{All-nil, All-cons, All-head, All-tail}
use Rattle.kk_field.specs.Field.{Modulus}
use Rattle.kk_field.proofs.Sums.{xor_xor_swap}
use Rattle.kk_linpoly.specs.LinPoly.{value}
use Rattle.kk_linpoly.proofs.Values.{value-xor, value-zero}
use Rattle.std.proofs.lemmas.List.{length-map, length-take-le, map-append}
use Rattle.kk_rows.specs.declared.rows.Row.{Row}
use Rattle.kk_rows.specs.Rows.{numbers}
use Rattle.kk_rows.specs.Echelon.{IsReduced}
use Rattle.kk_rows.proofs.Reduced.{dimension_reduced}
use Rattle.kk_rows.specs.Span.{dimension}
use Rattle.kk_rows.proofs.Spans.{in_span-least}
use Rattle.kk_interp.specs.declared.bi_poly.BiPoly.{BiPoly}
use Rattle.kk_interp.specs.BiPoly.{IsZeroAt, value_at}
use Rattle.kk_decode.specs.Solving.{point_of, IsZeroOn}

-- a number of which the place of the top bit leaves a bit
pub below_from_top : (x top w : ℕ) → 1 ≤ w → top ≡ w - 1 → x / 2 ^ top ≤ 1 → x < 2 ^ w
below_from_top x top w some same bit =
    let h : x < 2 ^ top * (x / 2 ^ top + 1) = lt-mul-div-succ x (pow_pos top) in
    let most : 2 ^ top * (x / 2 ^ top + 1) ≤ 2 ^ top * 2 = mul-le (2 ^ top) (x / 2 ^ top + 1) (2 ^ top) 2 (omega arith) (omega arith) in
    let next : w ≡ top + 1 = omega arith in
    let power : 2 ^ w ≡ 2 ^ top + 2 ^ top = ap (λ k. 2 ^ k) (next ∙ add-one top) ∙ two-pow-succ top in
    omega (arith, h, most, power)

-- what a shift leaves nothing of
pub below_from_shift : (x l : ℕ) → x / 2 ^ l ≡ 0 → x < 2 ^ l
below_from_shift x l e = let h : x < 2 ^ l * (0 + 1) = subst (λ q. x < 2 ^ l * (q + 1)) e (lt-mul-div-succ x (pow_pos l)) in omega (arith, h)

pub value_at-xor : (f : Modulus) → f.low < 2 ^ f.degree → (q : BiPoly) (x y x' y' : ℕ)
    → value_at f q.qx q.qy (bit_xor x x') (bit_xor y y') ≡ bit_xor (value_at f q.qx q.qy x y) (value_at f q.qx q.qy x' y')
value_at-xor f h q x y x' y' =
    ap₂ bit_xor (value-xor f h q.qx x x') (value-xor f h q.qy y y')
    ∙ xor_xor_swap (value f q.qx x) (value f q.qx x') (value f q.qy y) (value f q.qy y')

pub value_at-zero : (f : Modulus) → f.low < 2 ^ f.degree → (q : BiPoly) → value_at f q.qx q.qy 0 0 ≡ 0
value_at-zero f h q = ap₂ bit_xor (value-zero f h q.qx) (value-zero f h q.qy) ∙ xor_zero_l 0

-- ---- how many rows

pub length_points : {A : Type 0} (g : ℕ → A) (items : List Row) (i : ℕ) → i ≤ length items → length (map g (numbers (take i items))) ≡ i
length_points g items i few =
    omega (arith, length-map (numbers (take i items)) g, length-map (take i items) (λ (row : Row). row.0), length-take-le i items few)

pub count_rows : (items : List Row) (rows : List ℕ) → numbers items ≡ rows → IsReduced rows → length items ≡ dimension rows
count_rows items rows same reduced =
    sym (length-map items (λ (row : Row). row.0)) ∙ ap length same ∙ sym (dimension_reduced rows reduced)

-- the points of the rows, first those before a place and then the others
pub points_of_all : (f : Modulus) (items front back : List Row) (k : ℕ) (none some all : List (ℕ × ℕ)) → none ≡ []
    → front ≡ take k items → back ≡ drop k items → some ≡ none ++ map (point_of f) (numbers front)
    → all ≡ some ++ map (point_of f) (numbers back) → all ≡ map (point_of f) (numbers items)
points_of_all f items front back k none some all is_none is_front is_back is_some is_all =
    let P : List Row → List (ℕ × ℕ) = λ rows. map (point_of f) (numbers rows) in
    let joined : P front ++ P back ≡ P (front ++ back) =
    sym (ap (map (point_of f)) (map-append (λ (row : Row). row.0) front back) ∙ map-append (point_of f) (numbers front) (numbers back)) in
    is_all ∙ ap (λ l. l ++ P back) (is_some ∙ ap (λ l. l ++ P front) is_none) ∙ joined
    ∙ ap P (ap₂ ◌++◌ is_front is_back ∙ take-append-drop k items)

-- ---- zeros

each_row : (f : Modulus) (q : BiPoly) (rows : List ℕ) → IsZeroAt f q.qx q.qy (map (point_of f) rows)
    → All (λ r. value_at f q.qx q.qy (r / 2 ^ f.degree) (r % 2 ^ f.degree) ≡ 0) rows
each_row f q [] each = All-nil (λ r. value_at f q.qx q.qy (r / 2 ^ f.degree) (r % 2 ^ f.degree) ≡ 0)
each_row f q (r ∷ rows) each =
    let P : ℕ × ℕ → Type 0 = λ p. value_at f q.qx q.qy p.0 p.1 ≡ 0 in
    All-cons (λ r. value_at f q.qx q.qy (r / 2 ^ f.degree) (r % 2 ^ f.degree) ≡ 0) r rows (All-head P (point_of f r) (map (point_of f) rows) each)
    (each_row f q rows (All-tail P (point_of f r) (map (point_of f) rows) each))

-- what is 0 at the rows is 0 on their span
pub zero_on : (f : Modulus) → f.low < 2 ^ f.degree → (q : BiPoly) (rows : List ℕ) → IsZeroAt f q.qx q.qy (map (point_of f) rows) → IsZeroOn f rows q
zero_on f h q rows each =
    let n = 2 ^ f.degree in
    let P : ℕ → Type 0 = λ r. value_at f q.qx q.qy (r / n) (r % n) ≡ 0 in
    let at_zero : P 0 = ap₂ (value_at f q.qx q.qy) (zero-div n) (zero-mod n) ∙ value_at-zero f h q in
    let at_sum : (a b : ℕ) → P a → P b → P (bit_xor a b) =
    λ a b ka kb. ap₂ (value_at f q.qx q.qy) (xor_shr a b f.degree) (xor_mod a b f.degree)
    ∙ value_at-xor f h q (a / n) (a % n) (b / n) (b % n) ∙ ap₂ bit_xor ka kb ∙ xor_zero_l 0 in
    record { zeros = λ r inside. in_span-least P at_zero at_sum rows (each_row f q rows each) r inside }
