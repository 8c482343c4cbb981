-- The value of a linearised polynomial is linear in the polynomial and additive in the point.
use Rattle.std.proofs.Common.{◌≡◌, ℕ, zero, suc, ◌+◌, ◌^◌, ◌<◌, ◌≤◌, List, [], ◌∷◌, length, map, bit_xor, refl, sym, ap, ◌∙◌, arith}
use Rattle.std.specs.Prelude.{slice_index}
use Rattle.std.proofs.Math.Pow.{pow_pos}
use Rattle.std.proofs.lemmas.List.{get_or_past}
use Rattle.std.specs.Int.Bits.{xor_zero_l, xor_zero_r, xor_lt}
use Rattle.kk_field.specs.Field.{Modulus, field_product, frobenius}
use Rattle.kk_field.proofs.Sums.{xor_xor_swap}
use Rattle.kk_field.proofs.Residues.{field_product-below, field_product-zero, zero-field_product, field_product_assoc, field_product_swap, field_product-xor, xor-field_product, square-xor_residues, frobenius-field_product}
use Rattle.kk_linpoly.specs.LinPoly.{SamePolynomial, trimmed, value_from, value, sum_of, scaled, xor_sum, composed, composition, squared_up}
use Rattle.kk_linpoly.proofs.XorSums.{xor_sum-same, xor_sum-none, xor_sum-xor, xor_sum-first, xor_sum-add, xor_sum-mapped}
use Rattle.kk_linpoly.proofs.Trimmed.{SamePolynomial-trimmed}
use Rattle.kk_linpoly.proofs.Coefficients.{slice_index-composition, length-composition}
use Rattle.kk_linpoly.proofs.ComposeLoop.{composed-none}
use Rattle.kk_linpoly.proofs.Compositions.{up, squares, frobenius-suc, composed-first}

-- the value of the polynomial with the coefficients c below place n
pub value_below : Modulus → (ℕ → ℕ) → ℕ → ℕ → ℕ
value_below f c x n = xor_sum (λ k. field_product f (c k) (frobenius f k x)) n

module _ (f : Modulus) (h : f.low < 2 ^ f.degree) where
  value_from-suc : (i : ℕ) (cs : List ℕ) (x : ℕ) → value_from f (suc i) cs x ≡ value_from f i cs (field_product f x x)
  unfolding value_from
  value_from-suc i [] x = refl
  value_from-suc i (c ∷ cs) x =
      ap (λ y. bit_xor (field_product f c y) (value_from f (suc (suc i)) cs x)) (frobenius-suc f h i x)
      ∙ ap (bit_xor (field_product f c (frobenius f i (field_product f x x)))) (value_from-suc (suc i) cs x)

  pub value-nil : (x : ℕ) → value f [] x ≡ 0
  unfolding value_from
  value-nil x = refl

  -- the first coefficient apart: the others are those of a polynomial at the square of x
  pub value-cons : (c : ℕ) (cs : List ℕ) (x : ℕ) → value f (c ∷ cs) x ≡ bit_xor (field_product f c x) (value f cs (field_product f x x))
  unfolding value_from frobenius
  value-cons c cs x = ap (bit_xor (field_product f c x)) (value_from-suc 0 cs x)

  pub value-lt : (cs : List ℕ) (x : ℕ) → value f cs x < 2 ^ f.degree
  value-lt [] x = rw (value-nil x) (pow_pos f.degree)
  value-lt (c ∷ cs) x =
      rw (value-cons c cs x)
      (xor_lt f.degree (field_product f c x) (value f cs (field_product f x x)) (field_product-below f h c x) (value-lt cs (field_product f x x)))

  -- ---- linear in the polynomial

  pub value-sum_of : (cs ds : List ℕ) (x : ℕ) → value f (sum_of cs ds) x ≡ bit_xor (value f cs x) (value f ds x)
  unfolding sum_of
  value-sum_of [] ds x = sym (ap (λ y. bit_xor y (value f ds x)) (value-nil x) ∙ xor_zero_l (value f ds x))
  value-sum_of (c ∷ cs) [] x = sym (ap (bit_xor (value f (c ∷ cs) x)) (value-nil x) ∙ xor_zero_r (value f (c ∷ cs) x))
  value-sum_of (c ∷ cs) (d ∷ ds) x =
      let y = field_product f x x in
      value-cons (bit_xor c d) (sum_of cs ds) x
      ∙ ap (λ z. bit_xor z (value f (sum_of cs ds) y)) (xor-field_product f h c d x)
      ∙ ap (bit_xor (bit_xor (field_product f c x) (field_product f d x))) (value-sum_of cs ds y)
      ∙ xor_xor_swap (field_product f c x) (field_product f d x) (value f cs y) (value f ds y)
      ∙ sym (ap (λ z. bit_xor z (bit_xor (field_product f d x) (value f ds y))) (value-cons c cs x))
      ∙ sym (ap (bit_xor (value f (c ∷ cs) x)) (value-cons d ds x))

  pub value-scaled : (a : ℕ) (cs : List ℕ) (x : ℕ) → value f (scaled f a cs) x ≡ field_product f a (value f cs x)
  value-scaled a [] x = value-nil x ∙ sym (ap (field_product f a) (value-nil x) ∙ field_product-zero f h a)
  value-scaled a (c ∷ cs) x =
      let y = field_product f x x in
      value-cons (field_product f a c) (scaled f a cs) x
      ∙ ap (λ z. bit_xor z (value f (scaled f a cs) y)) (field_product_assoc f h a c x)
      ∙ ap (bit_xor (field_product f a (field_product f c x))) (value-scaled a cs y)
      ∙ sym (field_product-xor f h a (field_product f c x) (value f cs y))
      ∙ sym (ap (field_product f a) (value-cons c cs x))

  value-squares : (cs : List ℕ) (x : ℕ)
      → value f (map (λ c. field_product f c c) cs) (field_product f x x) ≡ field_product f (value f cs x) (value f cs x)
  value-squares [] x = value-nil (field_product f x x) ∙ sym (ap (λ y. field_product f y y) (value-nil x) ∙ field_product-zero f h 0)
  value-squares (c ∷ cs) x =
      let y = field_product f x x in
      value-cons (field_product f c c) (map (λ c. field_product f c c) cs) y
      ∙ ap (λ z. bit_xor z (value f (map (λ c. field_product f c c) cs) (field_product f y y))) (field_product_swap f h c c x x)
      ∙ ap (bit_xor (field_product f (field_product f c x) (field_product f c x))) (value-squares cs y)
      ∙ sym (square-xor_residues f h (field_product f c x) (value f cs y))
      ∙ sym (ap (λ z. field_product f z z) (value-cons c cs x))

  pub value-squared_up : (cs : List ℕ) (x : ℕ) → value f (squared_up f cs) x ≡ field_product f (value f cs x) (value f cs x)
  value-squared_up cs x =
      value-cons 0 (map (λ c. field_product f c c) cs) x
      ∙ ap (λ z. bit_xor z (value f (map (λ c. field_product f c c) cs) (field_product f x x))) (zero-field_product f h x)
      ∙ xor_zero_l (value f (map (λ c. field_product f c c) cs) (field_product f x x))
      ∙ value-squares cs x

  -- ---- additive in the point

  pub value-xor : (cs : List ℕ) (x y : ℕ) → value f cs (bit_xor x y) ≡ bit_xor (value f cs x) (value f cs y)
  value-xor [] x y = value-nil (bit_xor x y) ∙ sym (ap (λ z. bit_xor z (value f [] y)) (value-nil x) ∙ ap (bit_xor 0) (value-nil y))
  value-xor (c ∷ cs) x y =
      let u = field_product f x x in
      let v = field_product f y y in
      value-cons c cs (bit_xor x y)
      ∙ ap (λ z. bit_xor z (value f cs (field_product f (bit_xor x y) (bit_xor x y)))) (field_product-xor f h c x y)
      ∙ ap (λ z. bit_xor (bit_xor (field_product f c x) (field_product f c y)) (value f cs z)) (square-xor_residues f h x y)
      ∙ ap (bit_xor (bit_xor (field_product f c x) (field_product f c y))) (value-xor cs u v)
      ∙ xor_xor_swap (field_product f c x) (field_product f c y) (value f cs u) (value f cs v)
      ∙ sym (ap (λ z. bit_xor z (bit_xor (field_product f c y) (value f cs v))) (value-cons c cs x))
      ∙ sym (ap (bit_xor (value f (c ∷ cs) x)) (value-cons c cs y))

  pub value-zero : (cs : List ℕ) → value f cs 0 ≡ 0
  value-zero [] = value-nil 0
  value-zero (c ∷ cs) =
      value-cons c cs 0
      ∙ ap (λ z. bit_xor z (value f cs (field_product f 0 0))) (field_product-zero f h c)
      ∙ xor_zero_l (value f cs (field_product f 0 0))
      ∙ ap (value f cs) (field_product-zero f h 0)
      ∙ value-zero cs

  -- ---- by coefficients

  value_below-xor : (c d : ℕ → ℕ) (x n : ℕ)
      → value_below f (λ k. bit_xor (c k) (d k)) x n ≡ bit_xor (value_below f c x n) (value_below f d x n)
  unfolding value_below
  value_below-xor c d x n =
      xor_sum-same _ _ n (λ k less. xor-field_product f h (c k) (d k) (frobenius f k x))
      ∙ xor_sum-xor (λ k. field_product f (c k) (frobenius f k x)) (λ k. field_product f (d k) (frobenius f k x)) n

  value_below-scaled : (a : ℕ) (c : ℕ → ℕ) (x n : ℕ)
      → value_below f (λ k. field_product f a (c k)) x n ≡ field_product f a (value_below f c x n)
  unfolding value_below
  value_below-scaled a c x n =
      xor_sum-same _ _ n (λ k less. field_product_assoc f h a (c k) (frobenius f k x))
      ∙ sym (xor_sum-mapped (field_product f a) (field_product-zero f h a) (field_product-xor f h a) (λ k. field_product f (c k) (frobenius f k x)) n)

  value_below-squares : (c : ℕ → ℕ) (x n : ℕ)
      → value_below f (squares f c) (field_product f x x) n ≡ field_product f (value_below f c x n) (value_below f c x n)
  unfolding value_below squares
  value_below-squares c x n =
      xor_sum-same _ _ n
      (λ k less. ap (field_product f (field_product f (c k) (c k))) (frobenius-field_product f h k x x)
      ∙ field_product_swap f h (c k) (c k) (frobenius f k x) (frobenius f k x))
      ∙ sym (xor_sum-mapped (λ y. field_product f y y) (field_product-zero f h 0) (square-xor_residues f h) (λ k. field_product f (c k) (frobenius f k x)) n)

  value_below-up : (c : ℕ → ℕ) (x n : ℕ) → value_below f (up c) x (suc n) ≡ value_below f c (field_product f x x) n
  unfolding value_below up
  value_below-up c x n =
      xor_sum-first (λ k. field_product f (up c k) (frobenius f k x)) n
      ∙ ap (λ z. bit_xor z (xor_sum (λ k. field_product f (c k) (frobenius f (suc k) x)) n)) (zero-field_product f h (frobenius f 0 x))
      ∙ xor_zero_l (xor_sum (λ k. field_product f (c k) (frobenius f (suc k) x)) n)
      ∙ xor_sum-same _ _ n (λ k less. ap (field_product f (c k)) (frobenius-suc f h k x))

  value_below-same : (c d : ℕ → ℕ) (x n : ℕ) → ((k : ℕ) → c k ≡ d k) → value_below f c x n ≡ value_below f d x n
  unfolding value_below
  value_below-same c d x n same = xor_sum-same _ _ n (λ k less. ap (λ y. field_product f y (frobenius f k x)) (same k))

  value_below-add : (c : ℕ → ℕ) (x n k : ℕ) → ((i : ℕ) → n ≤ i → c i ≡ 0) → value_below f c x (n + k) ≡ value_below f c x n
  unfolding value_below
  value_below-add c x n k none =
      xor_sum-add (λ i. field_product f (c i) (frobenius f i x)) n k
      (λ i past. ap (λ y. field_product f y (frobenius f i x)) (none i past) ∙ zero-field_product f h (frobenius f i x))

  -- the value as a sum over the coefficients
  pub value-below : (cs : List ℕ) (x n : ℕ) → length cs ≤ n → value f cs x ≡ value_below f (slice_index cs) x n
  unfolding value_below frobenius
  value-below [] x n all = value-nil x ∙ sym (xor_sum-none _ n (λ k less. zero-field_product f h (frobenius f k x)))
  value-below (c ∷ cs) x zero all = absurd (omega arith)
  value-below (c ∷ cs) x (suc n) all =
      value-cons c cs x
      ∙ ap (bit_xor (field_product f c x))
      (value-below cs (field_product f x x) n (omega arith)
      ∙ xor_sum-same _ _ n (λ k less. ap (field_product f (slice_index cs k)) (sym (frobenius-suc f h k x))))
      ∙ sym (xor_sum-first (λ k. field_product f (slice_index (c ∷ cs) k) (frobenius f k x)) n)

  -- zeros at the end make no difference
  pub value-same : (cs ds : List ℕ) (x : ℕ) → SamePolynomial cs ds → value f cs x ≡ value f ds x
  value-same cs ds x same =
      let n = length cs + length ds in
      value-below cs x n (omega arith) ∙ value_below-same (slice_index cs) (slice_index ds) x n same.coefficients
      ∙ sym (value-below ds x n (omega arith))

  pub value-trimmed : (cs : List ℕ) (x : ℕ) → value f (trimmed cs) x ≡ value f cs x
  value-trimmed cs x = value-same (trimmed cs) cs x (SamePolynomial-trimmed cs)

  -- ---- the value of a composition

  value_below-composed : (cs : List ℕ) (d : ℕ → ℕ) (x k : ℕ) → ((i : ℕ) → k ≤ i → d i ≡ 0)
      → value_below f (composed f (slice_index cs) d) x (length cs + k) ≡ value f cs (value_below f d x k)
  unfolding value_below squares
  value_below-composed [] d x k past =
      xor_sum-none _ (0 + k)
      (λ n less. ap (λ y. field_product f y (frobenius f n x)) (composed-none f h d n) ∙ zero-field_product f h (frobenius f n x))
      ∙ sym (value-nil (value_below f d x k))
  value_below-composed (c ∷ cs) d x k past =
      let n = length cs + k in
      let rest = composed f (slice_index cs) (squares f d) in
      let y = value_below f d x k in
      let longer : suc n ≡ k + suc (length cs) = omega arith in
      let same : suc (length cs) + k ≡ suc n = omega arith in
      ap (value_below f (composed f (slice_index (c ∷ cs)) d) x) same
      ∙ value_below-same (composed f (slice_index (c ∷ cs)) d) (λ i. bit_xor (field_product f c (d i)) (up rest i)) x (suc n) (composed-first f h (slice_index (c ∷ cs)) d)
      ∙ value_below-xor (λ i. field_product f c (d i)) (up rest) x (suc n)
      ∙ ap (λ z. bit_xor z (value_below f (up rest) x (suc n)))
      (value_below-scaled c d x (suc n) ∙ ap (field_product f c) (ap (value_below f d x) longer ∙ value_below-add d x k (suc (length cs)) past))
      ∙ ap (bit_xor (field_product f c y))
      (value_below-up rest x n
      ∙ value_below-composed cs (squares f d) (field_product f x x) k (λ i beyond. ap (λ z. field_product f z z) (past i beyond) ∙ field_product-zero f h 0)
      ∙ ap (value f cs) (value_below-squares d x k))
      ∙ sym (value-cons c cs y)

  -- the value of a composition is the value at the value
  pub value-composition : (cs ds : List ℕ) (x : ℕ) → value f (composition f cs ds) x ≡ value f cs (value f ds x)
  value-composition cs ds x =
      let k = length ds in
      value-below (composition f cs ds) x (length cs + k) (omega (arith, length-composition f cs ds))
      ∙ value_below-same (slice_index (composition f cs ds)) (composed f (slice_index cs) (slice_index ds)) x (length cs + k) (slice_index-composition f h cs ds)
      ∙ value_below-composed cs (slice_index ds) x k (λ i past. get_or_past ds i 0 past)
      ∙ ap (value f cs) (sym (value-below ds x k (omega arith)))
