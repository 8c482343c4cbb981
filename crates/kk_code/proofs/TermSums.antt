-- The terms of a message at the evaluation points, and their sums.
use Rattle.std.proofs.Common.{◌≡◌, ℕ, zero, suc, ◌+◌, ◌*◌, ◌/◌, ◌%◌, ◌^◌, ◌<◌, ◌≤◌, List, [], ◌∷◌, length, bit_xor, slice_index, sym, ap, ◌∙◌, inl, inr, add-one, arith}
use Rattle.std.proofs.Math.Nat.{zero-mul, one-mul, mul-zero, mul-div-le, lt-div-mul-add, div-one, div-div-eq-div-mul}
use Rattle.std.proofs.Math.Pow.{pow-lt}
use Rattle.std.proofs.lemmas.Bool.{cases_eq}
use Rattle.std.proofs.lemmas.Nat.{pow-add}
use Rattle.std.proofs.lemmas.List.Elements.{All-get_or}
use Rattle.kk_field.specs.Field.{Modulus, residue, field_product, frobenius, power}
use Rattle.kk_field.proofs.Residues.{field_product-one, field_product-below, field_product_assoc, residue-small, term_next, frobenius-one, frobenius-field_product}
use Rattle.kk_field.proofs.Powers.{power-add}
use Rattle.kk_linpoly.specs.LinPoly.{value, xor_sum}
use Rattle.kk_linpoly.proofs.XorSums.{xor_sum-same, xor_sum-none, xor_sum-first, xor_sum-mapped, xor_sum-lt}
use Rattle.kk_linpoly.proofs.Compositions.{frobenius-suc}
use Rattle.kk_linpoly.proofs.Values.{value-nil, value-cons}
use Rattle.kk_code.specs.Codeword.{Parameters, IsInRange, IsMessage}
use Rattle.kk_code.specs.Encoder.{base, per_word, multiples, word_of, term, value_at}
use Rattle.kk_code.proofs.PackedMultiples.{part, part-xor, part-zero, part-multiples, power_none, power_more, frobenius_start, next_place}

-- ---- how many values a word has

pub some_per_word : (m : ℕ) → 1 ≤ m → m ≤ 64 → 1 ≤ 64 / m
some_per_word m some few = elim (cases_eq (64 / m) 0) [
  | inl none ↦
      let over : 64 < 64 / m * m + m = lt-div-mul-add (omega (arith, some)) in
      let nothing : 64 / m * m ≡ 0 = ap (λ n. n * m) none ∙ zero-mul m in
      absurd (omega (arith, over, nothing, few))
  | inr more ↦ omega (arith, more)
]

pub words_fit : (m : ℕ) → m * (64 / m) ≤ 64
words_fit m = mul-div-le 64 m

-- ---- powers of 2 as powers of X

module _ (f : Modulus) (h : f.low < 2 ^ f.degree) where
  power_of_two : (i : ℕ) → i < f.degree → power f 2 i ≡ residue f (1 * 2 ^ i)
  power_of_two zero less =
      let one : 1 < 2 ^ f.degree = pow-lt less in
      power_none f 2 ∙ sym (residue-small f h 1 one)
  power_of_two (suc i) less =
      ap (power f 2) (sym (add-one i)) ∙ power_more f 2 i
      ∙ term_next f h 1 i (power f 2 i) (power_of_two i (omega (arith, less)))
      ∙ ap (λ k. residue f (1 * 2 ^ k)) (add-one i)

  frobenius_power : 1 < 2 ^ f.degree → (j a i : ℕ) → frobenius f j (power f a i) ≡ power f (frobenius f j a) i
  frobenius_power one j a zero = ap (frobenius f j) (power_none f a) ∙ frobenius-one f h one j ∙ sym (power_none f (frobenius f j a))
  frobenius_power one j a (suc i) =
      ap (λ k. frobenius f j (power f a k)) (sym (add-one i)) ∙ ap (frobenius f j) (power_more f a i)
      ∙ frobenius-field_product f h j (power f a i) a
      ∙ ap (λ x. field_product f x (frobenius f j a)) (frobenius_power one j a i)
      ∙ sym (power_more f (frobenius f j a) i) ∙ ap (power f (frobenius f j a)) (add-one i)

  pub frobenius_of_point : (j i : ℕ) → i < f.degree → frobenius f j (2 ^ i) ≡ power f (frobenius f j 2) i
  frobenius_of_point j i less =
      let some : 0 < f.degree = omega (arith, less) in
      let one : 1 < 2 ^ f.degree = pow-lt some in
      let small : 2 ^ i < 2 ^ f.degree = pow-lt less in
      ap (frobenius f j) (sym (power_of_two i less ∙ ap (residue f) (one-mul (2 ^ i)) ∙ residue-small f h (2 ^ i) small))
      ∙ frobenius_power one j 2 i

  -- a value as the sum over the coefficients
  pub value-terms : (cs : List ℕ) (x : ℕ) → value f cs x ≡ xor_sum (λ j. field_product f (slice_index cs j) (frobenius f j x)) (length cs)
  value-terms [] x = value-nil f h x ∙ sym (xor_sum-none _ 0 (λ i less. absurd (omega (arith, less))))
  value-terms (c ∷ cs) x =
      let square = field_product f x x in
      value-cons f h c cs x
      ∙ ap (bit_xor (field_product f c x)) (value-terms cs square
      ∙ xor_sum-same _ _ (length cs) (λ j less. ap (field_product f (slice_index cs j)) (sym (frobenius-suc f h j x))))
      ∙ ap (λ y. bit_xor (field_product f c y) (xor_sum (λ j. field_product f (slice_index cs j) (frobenius f (suc j) x)) (length cs))) (sym (frobenius_start f x))
      ∙ sym (xor_sum-first (λ j. field_product f (slice_index (c ∷ cs) j) (frobenius f j x)) (length cs))

-- ---- terms

module _ (p : Parameters) (range : IsInRange p) where
  one_below : 1 < 2 ^ p.field.degree
  one_below = let some : 0 < p.field.degree = omega (arith, range.m_low) in pow-lt some

  pub term_first : (u : List ℕ) (j : ℕ) → slice_index u j < 2 ^ p.field.degree → term p u 0 j ≡ slice_index u j
  term_first u j below =
      ap (field_product p.field (slice_index u j)) (power_none p.field (base p j)) ∙ field_product-one p.field range.low (slice_index u j) below

  pub symbol_below : (u : List ℕ) → IsMessage p u → (j : ℕ) → j < p.k → slice_index u j < 2 ^ p.field.degree
  symbol_below u message j less = All-get_or (λ s. s < 2 ^ p.field.degree) u j 0 (omega (arith, less, message.len)) message.symbols

  pub value_first : (u : List ℕ) → IsMessage p u → value_at p u 0 ≡ xor_sum (slice_index u) p.k
  value_first u message = xor_sum-same (term p u 0) (slice_index u) p.k (λ j less. term_first u j (symbol_below u message j less))

  pub value_at-lt : (u : List ℕ) (i : ℕ) → value_at p u i < 2 ^ p.field.degree
  value_at-lt u i =
      xor_sum-lt p.field.degree (term p u i) p.k (λ j less. field_product-below p.field range.low (slice_index u j) (power p.field (base p j) i))

  pub term_after : (u : List ℕ) (i n j : ℕ) → field_product p.field (term p u i j) (power p.field (base p j) n) ≡ term p u (i + n) j
  term_after u i n j =
      let b = base p j in
      field_product_assoc p.field range.low (slice_index u j) (power p.field b i) (power p.field b n)
      ∙ ap (field_product p.field (slice_index u j)) (sym (power-add p.field range.low one_below b i n))

  -- the part r of a word of sums
  part-word_of : (terms : List ℕ) (r : ℕ) → r < per_word p
      → part p.field.degree r (word_of p terms) ≡ xor_sum (λ j. field_product p.field (slice_index terms j) (power p.field (base p j) (suc r))) p.k
  part-word_of terms r less =
      let m = p.field.degree in
      let products : ℕ → ℕ = λ j. multiples p.field (base p j) (per_word p) (slice_index terms j) in
      xor_sum-mapped (part m r) (part-zero m r) (part-xor m r) products p.k
      ∙ xor_sum-same (λ j. part m r (products j)) _ p.k (λ j within. part-multiples p.field range.low (base p j) (per_word p) (slice_index terms j) r less)

  -- a word that is made from the terms at 2^i has the values after that
  pub part-next : (u terms : List ℕ) (i r : ℕ) → ((j : ℕ) → j < p.k → slice_index terms j ≡ term p u i j) → r < per_word p
      → part p.field.degree r (word_of p terms) ≡ value_at p u (i + suc r)
  part-next u terms i r same less =
      part-word_of terms r less
      ∙ xor_sum-same _ (term p u (i + suc r)) p.k (λ j within.
      ap (λ x. field_product p.field x (power p.field (base p j) (suc r))) (same j within) ∙ term_after u i (suc r) j)

  -- the value at 2^i by the sum of terms is that of the polynomial
  pub value_at-point : (u : List ℕ) (i : ℕ) → IsMessage p u → i < p.l → value_at p u i ≡ value p.field u (2 ^ i)
  value_at-point u i message less =
      let within : i < p.field.degree = omega (arith, less, range.l_high) in
      let values : ℕ → ℕ = λ j. field_product p.field (slice_index u j) (frobenius p.field j (2 ^ i)) in
      xor_sum-same (term p u i) values p.k
      (λ j before. ap (field_product p.field (slice_index u j)) (sym (frobenius_of_point p.field range.low j i within)))
      ∙ ap (xor_sum values) (sym message.len) ∙ sym (value-terms p.field range.low u (2 ^ i))

-- ---- parts of a word

pub part_first : (m word : ℕ) → part m 0 word ≡ word % 2 ^ m
part_first m word = ap (λ k. word / 2 ^ k % 2 ^ m) (mul-zero m) ∙ ap (λ x. x % 2 ^ m) (div-one word)

pub part_after : (m r word : ℕ) → part m r (word / 2 ^ m) ≡ part m (suc r) word
part_after m r word =
    ap (λ x. x % 2 ^ m) (div-div-eq-div-mul word (2 ^ m) (2 ^ (m * r)) ∙ ap (λ k. word / k) (sym (pow-add 2 m (m * r))) ∙ ap (λ k. word / 2 ^ k) (sym (next_place m r)))
