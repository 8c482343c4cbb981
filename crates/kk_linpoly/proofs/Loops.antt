-- What the loops over coefficients keep.
use Rattle.std.proofs.Common.{◌≡◌, ◌≢◌, ℕ, suc, ◌+◌, ◌<◌, ◌≤◌, List, [], ◌∷◌, ◌++◌, length, take, set, bit_xor, refl, sym, ap, ◌∙◌, arith}
use Rattle.std.specs.Prelude.{slice_index}
use Rattle.std.proofs.Math.Nat.{add-zero, add-suc, suc-add, zero-add}
use Rattle.std.proofs.Math.Numerals.{add-one}
use Rattle.std.proofs.lemmas.List.{take_more, map_more, length-take-le, length-map, get_or-map, get_or_past}
use Rattle.kk_field.specs.Field.{Modulus, field_product, frobenius}
use Rattle.std.specs.Int.Bits.{xor_zero_l, xor_zero_r, xor_assoc}
use Rattle.kk_linpoly.specs.LinPoly.{trimmed, sum_of, scaled, squared_up, raised, value_from, value}
use Rattle.kk_linpoly.proofs.Trimmed.{trimmed-push, trimmed-push_zero}
use Rattle.kk_linpoly.proofs.Coefficients.{slice_index-sum_of, length-sum_of_max}

-- ---- the zeros at the end, from the last one down

pub zero_passed : (cs : List ℕ) (n : ℕ) → n < length cs → slice_index cs n ≡ 0 → trimmed (take (n + 1) cs) ≡ trimmed (take n cs)
zero_passed cs n within none =
    ap trimmed (take_more cs n 0 within) ∙ ap (λ c. trimmed (take n cs ++ c ∷ [])) none ∙ trimmed-push_zero (take n cs)

pub last_found : (cs : List ℕ) (n : ℕ) → n < length cs → slice_index cs n ≢ 0 → trimmed (take (n + 1) cs) ≡ take (n + 1) cs
last_found cs n within some =
    ap trimmed (take_more cs n 0 within) ∙ trimmed-push (take n cs) (slice_index cs n) some ∙ sym (take_more cs n 0 within)

-- ---- a sum, place by place

sum_of-nil : (cs : List ℕ) → sum_of cs [] ≡ cs
unfolding sum_of
sum_of-nil [] = refl
sum_of-nil (c ∷ cs) = refl

pub sum_of-push : (cs ds : List ℕ) (d : ℕ) → length ds < length cs
    → sum_of cs (ds ++ d ∷ []) ≡ set (sum_of cs ds) (length ds) (bit_xor (slice_index (sum_of cs ds) (length ds)) d)
unfolding sum_of
sum_of-push [] ds d less = absurd (omega arith)
sum_of-push (c ∷ cs) [] d less = ap (λ l. bit_xor c d ∷ l) (sum_of-nil cs)
sum_of-push (c ∷ cs) (b ∷ ds) d less = ap (λ l. bit_xor c b ∷ l) (sum_of-push cs ds d (omega arith))

pub sum_started : (cs ds : List ℕ) → cs ≡ sum_of cs (take 0 ds)
sum_started cs ds = sym (sum_of-nil cs)

-- one place more
pub sum_more : (start sum ds : List ℕ) (i : ℕ) → i < length ds → length ds ≤ length start → sum ≡ sum_of start (take i ds)
    → set sum i (bit_xor (slice_index sum i) (slice_index ds i)) ≡ sum_of start (take (i + 1) ds)
sum_more start sum ds i within fits e =
    let count : length (take i ds) ≡ i = length-take-le i ds (omega arith) in
    ap (λ s. set s i (bit_xor (slice_index s i) (slice_index ds i))) e
    ∙ ap (λ k. set (sum_of start (take i ds)) k (bit_xor (slice_index (sum_of start (take i ds)) k) (slice_index ds i))) (sym count)
    ∙ sym (sum_of-push start (take i ds) (slice_index ds i) (omega (arith, count)))
    ∙ ap (sum_of start) (sym (take_more ds i 0 within))

pub multiple_more : (f : Modulus) (a : ℕ) (start sum cs : List ℕ) (i c : ℕ) → i < length cs → length cs ≤ length start
    → sum ≡ sum_of start (scaled f a (take i cs)) → c ≡ slice_index cs i
    → set sum i (bit_xor (slice_index sum i) (field_product f a c)) ≡ sum_of start (scaled f a (take (i + 1) cs))
multiple_more f a start sum cs i c within fits e c_is =
    let front = scaled f a (take i cs) in
    let count : length front ≡ i = length-map (take i cs) (field_product f a) ∙ length-take-le i cs (omega arith) in
    ap (λ s. set s i (bit_xor (slice_index s i) (field_product f a c))) e
    ∙ ap (λ k. set (sum_of start front) k (bit_xor (slice_index (sum_of start front) k) (field_product f a c))) (sym count)
    ∙ sym (sum_of-push start front (field_product f a c) (omega (arith, count)))
    ∙ ap (λ x. sum_of start (front ++ field_product f a x ∷ [])) c_is
    ∙ ap (sum_of start) (sym (map_more (field_product f a) cs i 0 within))

-- ---- the square plus a multiple, place by place

pub length-raised : (f : Modulus) (d : ℕ) (cs : List ℕ) → length (raised f d cs) ≡ length cs + 1
length-raised f d cs =
    let square : ℕ → ℕ = λ x. field_product f x x in
    omega (arith, length-map cs square, length-map cs (field_product f d), length-sum_of_max (squared_up f cs) (scaled f d cs))

pub raised_within : (f : Modulus) (d : ℕ) (cs : List ℕ) (k : ℕ) → k < length cs
    → slice_index (raised f d cs) k ≡ bit_xor (slice_index (squared_up f cs) k) (field_product f d (slice_index cs k))
raised_within f d cs k within =
    slice_index-sum_of (squared_up f cs) (scaled f d cs) k
    ∙ ap (bit_xor (slice_index (squared_up f cs) k)) (get_or-map (field_product f d) cs k 0 0 within)

pub raised_last : (f : Modulus) (d : ℕ) (cs : List ℕ) → slice_index (raised f d cs) (length cs) ≡ slice_index (squared_up f cs) (length cs)
raised_last f d cs =
    slice_index-sum_of (squared_up f cs) (scaled f d cs) (length cs)
    ∙ ap (bit_xor (slice_index (squared_up f cs) (length cs)))
    (get_or_past (scaled f d cs) (length cs) 0 (omega (arith, length-map cs (field_product f d))))
    ∙ xor_zero_r (slice_index (squared_up f cs) (length cs))

-- the square of the coefficient before stands at each place but the lowest
pub squared_next : (f : Modulus) (cs : List ℕ) (k : ℕ) → k < length cs
    → slice_index (squared_up f cs) (k + 1) ≡ field_product f (slice_index cs k) (slice_index cs k)
squared_next f cs k within = rw (add-one k) (get_or-map (λ c. field_product f c c) cs k 0 0 within)

-- ---- a value, coefficient by coefficient

pub value_from-push : (f : Modulus) (i : ℕ) (cs : List ℕ) (c x : ℕ)
    → value_from f i (cs ++ c ∷ []) x ≡ bit_xor (value_from f i cs x) (field_product f c (frobenius f (i + length cs) x))
unfolding value_from
value_from-push f i [] c x =
    xor_zero_r (field_product f c (frobenius f i x)) ∙ sym (xor_zero_l (field_product f c (frobenius f i x)))
    ∙ ap (λ k. bit_xor 0 (field_product f c (frobenius f k x))) (sym (add-zero i))
value_from-push f i (d ∷ ds) c x =
    ap (bit_xor (field_product f d (frobenius f i x))) (value_from-push f (suc i) ds c x)
    ∙ sym (xor_assoc (field_product f d (frobenius f i x)) (value_from f (suc i) ds x) (field_product f c (frobenius f (suc i + length ds) x)))
    ∙ ap (λ k. bit_xor (bit_xor (field_product f d (frobenius f i x)) (value_from f (suc i) ds x)) (field_product f c (frobenius f k x)))
    (suc-add i (length ds) ∙ sym (add-suc i (length ds)))

pub value_none : (f : Modulus) (cs : List ℕ) (x : ℕ) → 0 ≡ value f (take 0 cs) x
unfolding value_from
value_none f cs x = refl

pub value_more : (f : Modulus) (cs : List ℕ) (i c x y sum product : ℕ) → i < length cs → sum ≡ value f (take i cs) x
    → y ≡ frobenius f i x → c ≡ slice_index cs i → product ≡ field_product f c y
    → bit_xor sum product ≡ value f (take (i + 1) cs) x
value_more f cs i c x y sum product within sum_is y_is c_is product_is =
    let count : 0 + length (take i cs) ≡ i = zero-add (length (take i cs)) ∙ length-take-le i cs (omega arith) in
    ap (λ s. bit_xor s product) sum_is
    ∙ ap (bit_xor (value f (take i cs) x)) (product_is ∙ ap (field_product f c) y_is)
    ∙ ap (λ k. bit_xor (value f (take i cs) x) (field_product f c (frobenius f k x))) (sym count)
    ∙ sym (value_from-push f 0 (take i cs) c x)
    ∙ ap (λ d. value f (take i cs ++ d ∷ []) x) c_is
    ∙ ap (λ l. value f l x) (sym (take_more cs i 0 within))
