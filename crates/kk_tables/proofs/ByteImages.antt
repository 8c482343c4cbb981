-- Additive maps of numbers, by the bytes of their argument.
use Rattle.std.proofs.Common.{◌≡◌, ℕ, zero, suc, ◌+◌, ◌-◌, ◌*◌, ◌/◌, ◌%◌, ◌^◌, ◌<◌, ◌≤◌, bit_xor, slice_index, sym, ap, ◌∙◌, arith}
use Rattle.std.proofs.Math.Nat.{mod-lt, mul_assoc, mul_comm, one-mul, add_comm, div-div-eq-div-mul}
use Rattle.std.proofs.Math.Pow.{pow_pos, pow_mono, shr_lt}
use Rattle.std.proofs.lemmas.Nat.{pow-add}
use Rattle.std.specs.Int.Bits.{xor_comm, xor_assoc}
use Rattle.kk_field.proofs.Sums.{sums, xor_shl}
use Rattle.kk_field.proofs.Remainders.{HasDegree-modulus, xor-modulus, remainder_by, remainder-product_left}
use Rattle.kk_field.proofs.Residues.{one_small, residue-below, residue-small, residue-xor, square-xor_residues, field_product-one}
use Rattle.kk_field.proofs.Products.{zero-product, product-pow, product-one, product-double, double-product}
use Rattle.kk_field.specs.Polynomial.{product}
use Rattle.kk_field.specs.Field.{Modulus, polynomial, residue, field_product}
use Rattle.kk_rows.specs.AdditiveMap.{IsAdditive}
use Rattle.kk_tables.specs.Tables.{IsTableOf, DoublesBy, byte_at, reduction, squared}
use Rattle.kk_tables.proofs.WindowProducts.{by_places, product-lt}

double_square : (x : ℕ) → product (x * 2) (x * 2) ≡ product x x * 4
double_square x =
    double-product x (x * 2) ∙ ap (λ y. y * 2) (product-double x x) ∙ mul_assoc (product x x) 2 2

-- the lowest byte of rest apart
pub byte_apart : (image : ℕ → ℕ) → IsAdditive image → (rest s : ℕ)
    → image (rest * 2 ^ s) ≡ bit_xor (image (rest % 256 * 2 ^ s)) (image (rest / 256 * 2 ^ (s + 8)))
byte_apart image additive rest s =
    let split : rest * 2 ^ s ≡ bit_xor (rest / 2 ^ 8 * 2 ^ 8 * 2 ^ s) (rest % 2 ^ 8 * 2 ^ s) =
    ap (λ x. x * 2 ^ s) (sym (by_places rest 8)) ∙ xor_shl (rest / 2 ^ 8 * 2 ^ 8) (rest % 2 ^ 8) s in
    let power : 2 ^ 8 * 2 ^ s ≡ 2 ^ (s + 8) = sym (ap (λ n. 2 ^ n) (add_comm s 8) ∙ pow-add 2 8 s) in
    let up : rest / 2 ^ 8 * 2 ^ 8 * 2 ^ s ≡ rest / 2 ^ 8 * 2 ^ (s + 8) = mul_assoc (rest / 2 ^ 8) (2 ^ 8) (2 ^ s) ∙ ap (λ n. rest / 2 ^ 8 * n) power in
    ap image (split ∙ ap (λ x. bit_xor x (rest % 2 ^ 8 * 2 ^ s)) up ∙ xor_comm (rest / 2 ^ 8 * 2 ^ (s + 8)) (rest % 2 ^ 8 * 2 ^ s))
    ∙ additive (rest % 2 ^ 8 * 2 ^ s) (rest / 2 ^ 8 * 2 ^ (s + 8))

pub byte_down : (high i : ℕ) → high / 2 ^ (8 * i) / 256 ≡ high / 2 ^ (8 * (i + 1))
byte_down high i =
    let e : 8 * (i + 1) ≡ 8 * i + 8 = omega arith in
    div-div-eq-div-mul high (2 ^ (8 * i)) (2 ^ 8) ∙ ap (λ n. high / n) (sym (pow-add 2 (8 * i) 8)) ∙ ap (λ n. high / 2 ^ n) (sym e)

-- the entry of a byte
pub byte_at-entry : (i v : ℕ) → v < 256 → byte_at (256 * i + v) ≡ v * 2 ^ (8 * i)
byte_at-entry i v h =
    let low : (256 * i + v) % 256 ≡ v = omega (arith, h) in
    let high : (256 * i + v) / 256 ≡ i = omega (arith, h) in
    ap (λ x. x * 2 ^ (8 * ((256 * i + v) / 256))) low ∙ ap (λ x. v * 2 ^ (8 * x)) high

-- what a round of a look-up keeps
pub look_up_next : (image : ℕ → ℕ) (table : _) → IsAdditive image → IsTableOf image table → (x sum rest i : ℕ) → i < 8
    → image x ≡ bit_xor sum (image (rest * 2 ^ (8 * i)))
    → image x ≡ bit_xor (bit_xor sum (slice_index table (256 * i + rest % 256))) (image (rest / 256 * 2 ^ (8 * (i + 1))))
look_up_next image table additive t x sum rest i hi e =
    let small : rest % 256 < 256 = mod-lt rest (omega arith) in
    let within : 256 * i + rest % 256 < 2048 = omega (arith, hi, small) in
    let entry : slice_index table (256 * i + rest % 256) ≡ image (rest % 256 * 2 ^ (8 * i)) =
    t.entries (256 * i + rest % 256) within ∙ ap image (byte_at-entry i (rest % 256) small) in
    let next : 8 * i + 8 ≡ 8 * (i + 1) = omega arith in
    e ∙ ap (bit_xor sum) (byte_apart image additive rest (8 * i))
    ∙ sym (xor_assoc sum (image (rest % 256 * 2 ^ (8 * i))) (image (rest / 256 * 2 ^ (8 * i + 8))))
    ∙ ap (λ y. bit_xor (bit_xor sum y) (image (rest / 256 * 2 ^ (8 * i + 8)))) (sym entry)
    ∙ ap (λ n. bit_xor (bit_xor sum (slice_index table (256 * i + rest % 256))) (image (rest / 256 * 2 ^ n))) next

-- ---- making a table

pub residue_shift : (f : Modulus) → f.low < 2 ^ f.degree → (y k : ℕ) → residue f (residue f y * 2 ^ k) ≡ residue f (y * 2 ^ k)
residue_shift f h y k =
    ap (residue f) (sym (product-pow (residue f y) k))
    ∙ remainder-product_left f.degree (polynomial f) (HasDegree-modulus f.degree f.low h) y (2 ^ k)
    ∙ ap (residue f) (product-pow y k)

-- an entry of the same byte
pub in_byte : (n w : ℕ) → w < 256 → byte_at (n - n % 256 + w) ≡ w * 2 ^ (8 * (n / 256))
in_byte n w h =
    let e : n - n % 256 + w ≡ 256 * (n / 256) + w = omega arith in
    ap byte_at e ∙ byte_at-entry (n / 256) w h

times_two : (w p : ℕ) → w * p * 2 ≡ w * 2 * p
times_two w p = mul_assoc w p 2 ∙ ap (λ x. w * x) (mul_comm p 2) ∙ sym (mul_assoc w 2 p)

-- ---- the two maps

pub IsAdditive-reduction : (f : Modulus) → f.low < 2 ^ f.degree → IsAdditive (reduction f)
IsAdditive-reduction f h x y = ap (residue f) (xor_shl x y f.degree) ∙ residue-xor f h (x * 2 ^ f.degree) (y * 2 ^ f.degree)

pub IsAdditive-squared : (f : Modulus) → f.low < 2 ^ f.degree → IsAdditive (squared f)
IsAdditive-squared f h x y = square-xor_residues f h x y

pub DoublesBy-reduction : (f : Modulus) → f.low < 2 ^ f.degree → DoublesBy f 1 (reduction f)
DoublesBy-reduction f h x = sym (residue_shift f h (x * 2 ^ f.degree) 1 ∙ ap (residue f) (times_two x (2 ^ f.degree)))

pub DoublesBy-squared : (f : Modulus) → f.low < 2 ^ f.degree → DoublesBy f 2 (squared f)
unfolding field_product
DoublesBy-squared f h x =
    sym (residue_shift f h (product x x) 2 ∙ ap (residue f) (sym (double_square x)))

-- X^m is low up to the modulus
pub reduction-one : (f : Modulus) → f.low < 2 ^ f.degree → reduction f 1 ≡ f.low
reduction-one f h =
    let m = f.degree in
    remainder_by m (polynomial f) (HasDegree-modulus m f.low h) (1 * 2 ^ m) f.low 1 h
    (one-mul (2 ^ m) ∙ sym (rw (product-one (polynomial f), ← xor-modulus m f.low h) (simp sums)))

pub squared-one : (f : Modulus) → f.low < 2 ^ f.degree → 1 ≤ f.degree → squared f 1 ≡ 1
squared-one f h least = field_product-one f h 1 (one_small f.degree least)

-- ---- the two parts of a product

pub low_and_high : (f : Modulus) → f.low < 2 ^ f.degree → (p : ℕ)
    → bit_xor (p % 2 ^ f.degree) (reduction f (p / 2 ^ f.degree)) ≡ residue f p
low_and_high f h p =
    let m = f.degree in
    sym (ap (residue f) (sym (by_places p m))
    ∙ residue-xor f h (p / 2 ^ m * 2 ^ m) (p % 2 ^ m)
    ∙ ap (bit_xor (residue f (p / 2 ^ m * 2 ^ m))) (residue-small f h (p % 2 ^ m) (mod-lt p (pow_pos m)))
    ∙ xor_comm (residue f (p / 2 ^ m * 2 ^ m)) (p % 2 ^ m))

pub product-fits : (a b m n : ℕ) → m ≤ n → a < 2 ^ m → b < 2 ^ m → product a b < 2 ^ (m + n)
product-fits a b zero n most ha hb =
    let none : a ≡ 0 = omega (arith, ha) in
    rw (none, zero-product b) (pow_pos (0 + n))
product-fits a b (suc m) n most ha hb =
    let le : suc m + m ≤ suc m + n = omega (arith, most) in
    let powers : 2 ^ (suc m + m) ≤ 2 ^ (suc m + n) = pow_mono le in
    omega (arith, product-lt (suc m) a b m ha hb, powers)

pub high_below : (m n p : ℕ) → p < 2 ^ (m + n) → p / 2 ^ m < 2 ^ n
high_below m n p h = shr_lt n m (rw (add_comm n m) h)

pub two_parts : (f : Modulus) → f.low < 2 ^ f.degree → (p r : ℕ) → r ≡ reduction f (p / 2 ^ f.degree)
    → (bit_xor (p % 2 ^ f.degree) r ≡ residue f p) × (bit_xor (p % 2 ^ f.degree) r < 2 ^ f.degree)
two_parts f h p r er =
    let whole : bit_xor (p % 2 ^ f.degree) r ≡ residue f p = ap (bit_xor (p % 2 ^ f.degree)) er ∙ low_and_high f h p in
    (whole, rw whole (residue-below f h p))
