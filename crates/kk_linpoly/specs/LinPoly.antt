-- Linearised polynomials over GF(2^m), as the list of their coefficients: coefficient i stands at X^(2^i), and is 0 past
-- the end of the list.
use Rattle.std.specs.Prelude.{◌≡◌, ℕ, zero, suc, ◌+◌, ◌-◌, ◌^◌, ◌<◌, List, [], ◌∷◌, Option, Some, None, length, map, slice_index, bit_xor, if◌then◌else◌, ◌==◌, All}
use Rattle.std.specs.List.{range_with_len}
use Rattle.kk_field.specs.Field.{Modulus, field_product, frobenius}

-- the sum of c·x^(2^i) over the coefficients, the first of which stands at X^(2^i)
unfoldable pub value_from : Modulus → ℕ → List ℕ → ℕ → ℕ
value_from f i [] x = 0
value_from f i (c ∷ cs) x = bit_xor (field_product f c (frobenius f i x)) (value_from f (suc i) cs x)

-- the value of the polynomial at x
abbrev pub value : Modulus → List ℕ → ℕ → ℕ
value f cs x = value_from f 0 cs x

-- each coefficient is below 2^m
abbrev pub IsOver : ℕ → List ℕ → Type 0
IsOver m cs = All (λ c. c < 2 ^ m) cs

-- ---- zeros at the end make no difference

-- the same polynomial
pub record SamePolynomial (cs ds : List ℕ) : Type 0 where
  pub coefficients : (i : ℕ) → slice_index cs i ≡ slice_index ds i

-- c and then cs, or nothing where that is 0 alone
unfoldable pub with_first : ℕ → List ℕ → List ℕ
with_first c [] = if c == 0 then [] else c ∷ []
with_first c (d ∷ ds) = c ∷ d ∷ ds

-- the coefficients without the zeros at the end
unfoldable pub trimmed : List ℕ → List ℕ
trimmed [] = []
trimmed (c ∷ cs) = with_first c (trimmed cs)

-- the degree where the coefficient c stands before others, of this degree
unfoldable pub degree_with_first : ℕ → Option ℕ → Option ℕ
degree_with_first c None = if c == 0 then None else Some 0
degree_with_first c (Some e) = Some (suc e)

-- the last place whose coefficient isn't 0, or None for the zero polynomial
unfoldable pub degree : List ℕ → Option ℕ
degree [] = None
degree (c ∷ cs) = degree_with_first c (degree cs)

-- the degree is e, and its coefficient is 1
pub record IsMonic (cs : List ℕ) (e : ℕ) : Type 0 where
  pub degree_is : degree cs ≡ Some e
  pub leads : slice_index cs e ≡ 1

-- ---- sums and products

-- the sum, place by place
unfoldable pub sum_of : List ℕ → List ℕ → List ℕ
sum_of [] ds = ds
sum_of (c ∷ cs) [] = c ∷ cs
sum_of (c ∷ cs) (d ∷ ds) = bit_xor c d ∷ sum_of cs ds

-- every coefficient times a
abbrev pub scaled : Modulus → ℕ → List ℕ → List ℕ
scaled f a cs = map (field_product f a) cs

-- term 0 + .. + term (n - 1)
unfoldable pub xor_sum : (ℕ → ℕ) → ℕ → ℕ
xor_sum term zero = 0
xor_sum term (suc n) = bit_xor (xor_sum term n) (term n)

-- coefficient n of a composition, by the coefficients c and d: the sum of c i · (d j)^(2^i) over all i + j = n
abbrev pub composed : Modulus → (ℕ → ℕ) → (ℕ → ℕ) → ℕ → ℕ
composed f c d n = xor_sum (λ i. field_product f (c i) (frobenius f i (d (n - i)))) (suc n)

-- the composition, whose value at x is the value of cs at the value of ds at x
unfoldable pub composition : Modulus → List ℕ → List ℕ → List ℕ
composition f cs ds =
    map (composed f (slice_index cs) (slice_index ds)) (range_with_len 0 (length cs + length ds - 1))

-- the square of the polynomial, which is the composition of X^2 and it: each coefficient squared, one place up
abbrev pub squared_up : Modulus → List ℕ → List ℕ
squared_up f cs = 0 ∷ map (λ c. field_product f c c) cs

-- the square of the polynomial plus d times it
abbrev pub raised : Modulus → ℕ → List ℕ → List ℕ
raised f d cs = sum_of (squared_up f cs) (scaled f d cs)
