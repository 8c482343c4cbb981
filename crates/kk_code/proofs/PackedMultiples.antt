-- The products of an element and the powers of another, several to a word.
use Rattle.std.proofs.Common.{◌≡◌, ℕ, zero, suc, ◌+◌, ◌-◌, ◌*◌, ◌/◌, ◌%◌, ◌^◌, ◌<◌, ◌≤◌, bit_xor, refl, sym, ap, ap₂, ◌∙◌, inl, inr, add-one, arith}
use Rattle.std.specs.Int.Bits.{xor_zero_l, xor_zero_r, xor_lt}
use Rattle.std.proofs.Math.Nat.{mod-eq_of_lt, div-eq_of_lt, mul-mod_left, mul-div_cancel, mul_assoc, mul-add, mul-suc, add_comm, mul-lt-mul_of_pos_right, mul-le-mul_left}
use Rattle.std.proofs.Math.Pow.{pow_pos, pow_mono}
use Rattle.std.proofs.lemmas.Bool.{cases_lt}
use Rattle.std.proofs.lemmas.Nat.{pow-add, xor_mod, xor_shr, div_below, shl_whole}
use Rattle.kk_field.specs.Field.{Modulus, residue, field_product, frobenius, power}
use Rattle.kk_field.proofs.Sums.{xor_shl, xor_xor_swap}
use Rattle.kk_field.proofs.Residues.{field_product-below, xor-field_product, residue-field_product}
use Rattle.kk_rows.specs.AdditiveMap.{IsAdditive}
use Rattle.kk_code.specs.Encoder.{multiples}

-- the part of m bits at place r of a word
abbrev pub part : ℕ → ℕ → ℕ → ℕ
part m r word = word / 2 ^ (m * r) % 2 ^ m

pub part-xor : (m r a b : ℕ) → part m r (bit_xor a b) ≡ bit_xor (part m r a) (part m r b)
part-xor m r a b = ap (λ x. x % 2 ^ m) (xor_shr a b (m * r)) ∙ xor_mod (a / 2 ^ (m * r)) (b / 2 ^ (m * r)) m

pub part-zero : (m r : ℕ) → part m r 0 ≡ 0
part-zero m r = ap (λ x. x % 2 ^ m) (div-eq_of_lt (pow_pos (m * r))) ∙ mod-eq_of_lt (pow_pos m)

part_of_lower : (m r a : ℕ) → a < 2 ^ (m * r) → part m r a ≡ 0
part_of_lower m r a below = ap (λ x. x % 2 ^ m) (div-eq_of_lt below) ∙ mod-eq_of_lt (pow_pos m)

part_itself : (m n y : ℕ) → y < 2 ^ m → part m n (y * 2 ^ (m * n)) ≡ y
part_itself m n y below = ap (λ x. x % 2 ^ m) (mul-div_cancel y (pow_pos (m * n))) ∙ mod-eq_of_lt below

pub next_place : (m n : ℕ) → m * suc n ≡ m + m * n
next_place m n = mul-suc m n ∙ add_comm (m * n) m

places : (m r n : ℕ) → r < n → m * n ≡ m * (n - r - 1) + m + m * r
places m r n less =
    let d = n - r - 1 in
    let split : n ≡ suc d + r = omega (arith, less) in
    ap (λ k. m * k) split ∙ mul-add m (suc d) r ∙ ap (λ k. k + m * r) (mul-suc m d)

part_of_higher : (m r n y : ℕ) → r < n → part m r (y * 2 ^ (m * n)) ≡ 0
part_of_higher m r n y less =
    let d = n - r - 1 in
    let split : m * n ≡ m * d + m + m * r = places m r n less in
    let up : y * 2 ^ (m * n) ≡ y * 2 ^ (m * d) * 2 ^ m * 2 ^ (m * r) =
    ap (λ k. y * 2 ^ k) split ∙ ap (λ k. y * k) (pow-add 2 (m * d + m) (m * r) ∙ ap (λ k. k * 2 ^ (m * r)) (pow-add 2 (m * d) m))
    ∙ sym (mul_assoc y (2 ^ (m * d) * 2 ^ m) (2 ^ (m * r))) ∙ ap (λ k. k * 2 ^ (m * r)) (sym (mul_assoc y (2 ^ (m * d)) (2 ^ m))) in
    ap (part m r) up
    ∙ ap (λ x. x % 2 ^ m) (mul-div_cancel (y * 2 ^ (m * d) * 2 ^ m) (pow_pos (m * r)))
    ∙ mul-mod_left (y * 2 ^ (m * d)) (2 ^ m)

module _ (f : Modulus) (h : f.low < 2 ^ f.degree) where
  pub multiples-none : (b x : ℕ) → multiples f b 0 x ≡ 0
  unfolding multiples
  multiples-none b x = refl

  pub multiples-suc : (b n x : ℕ) → multiples f b (suc n) x ≡ bit_xor (multiples f b n x) (field_product f x (power f b (suc n)) * 2 ^ (f.degree * n))
  unfolding multiples
  multiples-suc b n x = refl

  pub multiples-more : (b n x : ℕ) → multiples f b (n + 1) x ≡ bit_xor (multiples f b n x) (field_product f x (power f b (n + 1)) * 2 ^ (f.degree * n))
  multiples-more b n x =
      ap (λ k. multiples f b k x) (add-one n) ∙ multiples-suc b n x
      ∙ ap (λ k. bit_xor (multiples f b n x) (field_product f x (power f b k) * 2 ^ (f.degree * n))) (sym (add-one n))

  pub IsAdditive-multiples : (b n : ℕ) → IsAdditive (multiples f b n)
  IsAdditive-multiples b zero x y = multiples-none b (bit_xor x y) ∙ sym (ap₂ bit_xor (multiples-none b x) (multiples-none b y) ∙ xor_zero_r 0)
  IsAdditive-multiples b (suc n) x y =
      let c = power f b (suc n) in
      let s = f.degree * n in
      multiples-suc b n (bit_xor x y)
      ∙ ap₂ bit_xor (IsAdditive-multiples b n x y)
      (ap (λ z. z * 2 ^ s) (xor-field_product f h x y c) ∙ xor_shl (field_product f x c) (field_product f y c) s)
      ∙ xor_xor_swap (multiples f b n x) (multiples f b n y) (field_product f x c * 2 ^ s) (field_product f y c * 2 ^ s)
      ∙ sym (ap₂ bit_xor (multiples-suc b n x) (multiples-suc b n y))

  residue_times : (x c : ℕ) → field_product f (residue f x) c ≡ field_product f x c
  unfolding field_product
  residue_times x c = residue-field_product f h x c

  -- a multiple of a number is that of the element it is
  pub multiples-residue : (b n x : ℕ) → multiples f b n (residue f x) ≡ multiples f b n x
  multiples-residue b zero x = multiples-none b (residue f x) ∙ sym (multiples-none b x)
  multiples-residue b (suc n) x =
      multiples-suc b n (residue f x)
      ∙ ap₂ bit_xor (multiples-residue b n x) (ap (λ z. z * 2 ^ (f.degree * n)) (residue_times x (power f b (suc n))))
      ∙ sym (multiples-suc b n x)

  pub multiples-lt : (b n x : ℕ) → multiples f b n x < 2 ^ (f.degree * n)
  multiples-lt b zero x = rw (multiples-none b x) (pow_pos (f.degree * 0))
  multiples-lt b (suc n) x =
      let m = f.degree in
      let y = field_product f x (power f b (suc n)) in
      let next : m * suc n ≡ m + m * n = next_place m n in
      let le : m * n ≤ m * suc n = omega (arith, next) in
      let powers : 2 ^ (m * n) ≤ 2 ^ (m * suc n) = pow_mono le in
      let low : multiples f b n x < 2 ^ (m * suc n) = omega (arith, multiples-lt b n x, powers) in
      let high : y * 2 ^ (m * n) < 2 ^ (m * suc n) =
      rw (next, pow-add 2 m (m * n)) (mul-lt-mul_of_pos_right (field_product-below f h x (power f b (suc n))) (pow_pos (m * n))) in
      rw (multiples-suc b n x) (xor_lt (m * suc n) (multiples f b n x) (y * 2 ^ (m * n)) low high)

  -- each product stands in a part of its own
  pub part-multiples : (b n x r : ℕ) → r < n → part f.degree r (multiples f b n x) ≡ field_product f x (power f b (suc r))
  part-multiples b zero x r less = absurd (omega (arith, less))
  part-multiples b (suc n) x r less =
      let m = f.degree in
      let y = field_product f x (power f b (suc n)) in
      let apart = ap (part m r) (multiples-suc b n x) ∙ part-xor m r (multiples f b n x) (y * 2 ^ (m * n)) in
      elim (cases_lt r n) [
        | inl before ↦
            apart ∙ ap₂ bit_xor (part-multiples b n x r before) (part_of_higher m r n y before)
            ∙ xor_zero_r (field_product f x (power f b (suc r)))
        | inr here ↦
            let e : r ≡ n = omega (arith, less, here) in
            rw e (ap (part m n) (multiples-suc b n x) ∙ part-xor m n (multiples f b n x) (y * 2 ^ (m * n))
            ∙ ap₂ bit_xor (part_of_lower m n (multiples f b n x) (multiples-lt b n x)) (part_itself m n y (field_product-below f h x (power f b (suc n))))
            ∙ xor_zero_l y)
      ]

  -- the last product is the top of the word
  pub top-multiples : (b n x : ℕ) → 1 ≤ n → multiples f b n x / 2 ^ (f.degree * (n - 1)) ≡ field_product f x (power f b n)
  top-multiples b n x some =
      let m = f.degree in
      let last : suc (n - 1) ≡ n = omega (arith, some) in
      let split : m * n ≡ m + m * (n - 1) = ap (λ k. m * k) (sym last) ∙ next_place m (n - 1) in
      let below : multiples f b n x < 2 ^ m * 2 ^ (m * (n - 1)) = rw (sym (pow-add 2 m (m * (n - 1))), sym split) (multiples-lt b n x) in
      let small : multiples f b n x / 2 ^ (m * (n - 1)) < 2 ^ m = div_below (multiples f b n x) (2 ^ (m * (n - 1))) (2 ^ m) (pow_pos (m * (n - 1))) below in
      sym (mod-eq_of_lt small) ∙ part-multiples b n x (n - 1) (omega (arith, some)) ∙ ap (λ k. field_product f x (power f b k)) last

-- ---- what the loops compute

-- a product has room at its place
pub place_fits : (m i n : ℕ) → i < n → m * n ≤ 64 → m + m * i ≤ 64
place_fits m i n less room =
    let le : suc i ≤ n = omega (arith, less) in
    let more : m * suc i ≤ m * n = mul-le-mul_left m le in
    omega (arith, more, room, next_place m i)

pub shifted : (m i n y : ℕ) → i < n → m * n ≤ 64 → y < 2 ^ m → y * 2 ^ (m * i) % 2 ^ 64 ≡ y * 2 ^ (m * i)
shifted m i n y less room below = shl_whole y m (m * i) 64 below (place_fits m i n less room)

pub power_none : (f : Modulus) (b : ℕ) → power f b 0 ≡ 1
unfolding power
power_none f b = refl

power_suc : (f : Modulus) (b i : ℕ) → power f b (suc i) ≡ field_product f (power f b i) b
unfolding power
power_suc f b i = refl

pub power_more : (f : Modulus) (b i : ℕ) → power f b (i + 1) ≡ field_product f (power f b i) b
power_more f b i = ap (power f b) (add-one i) ∙ power_suc f b i

pub two_fits : (m : ℕ) → 2 ≤ m → 2 < 2 ^ m
two_fits m some = let powers : 2 ^ 2 ≤ 2 ^ m = pow_mono some in omega (arith, powers)

pub frobenius_start : (f : Modulus) (a : ℕ) → frobenius f 0 a ≡ a
unfolding frobenius
frobenius_start f a = refl

frobenius_suc : (f : Modulus) (i a : ℕ) → frobenius f (suc i) a ≡ field_product f (frobenius f i a) (frobenius f i a)
unfolding frobenius
frobenius_suc f i a = refl

pub frobenius_more : (f : Modulus) (i a : ℕ) → frobenius f (i + 1) a ≡ field_product f (frobenius f i a) (frobenius f i a)
frobenius_more f i a = ap (λ k. frobenius f k a) (add-one i) ∙ frobenius_suc f i a
