-- The values of a message's polynomial at the evaluation points, and the fixed map from k of them to the symbols and to
-- the others.
use Rattle.std.specs.Prelude.{◌≡◌, ◌≢◌, ℕ, Bool, Option, suc, ◌-◌, ◌/◌, ◌%◌, ◌^◌, ◌<◌, ◌≤◌, List, [], length, slice_index, get_or}
use Rattle.kk_field.specs.Field.{Modulus, field_product, frobenius}
use Rattle.kk_linpoly.specs.LinPoly.{IsOver, xor_sum}
use Rattle.kk_code.specs.Codeword.{Parameters}

-- element c of row j
abbrev pub element : List (List ℕ) → ℕ → ℕ → ℕ
element rows j c = slice_index (get_or rows j []) c

-- the value at x of the polynomial whose k coefficients are elements c of the first k rows
abbrev pub column_value : Modulus → List (List ℕ) → ℕ → ℕ → ℕ → ℕ
column_value f rows k c x = xor_sum (λ j. field_product f (element rows j c) (frobenius f j x)) k

-- The first k elements of l rows. Column c is a polynomial in the first k rows: its value is 1 at 2^c, 0 at the others of the
-- first k evaluation points, and element c of row i at each point 2^i past these.
pub record IsFixedMap (p : Parameters) (rows : List (List ℕ)) : Type 0 where
  pub count : p.l ≤ length rows
  pub of_field : (j : ℕ) → j < p.l → IsOver p.field.degree (get_or rows j [])
  pub one : (c : ℕ) → c < p.k → column_value p.field rows p.k c (2 ^ c) ≡ 1
  pub zeros : (c i : ℕ) → c < p.k → i < p.k → c ≢ i → column_value p.field rows p.k c (2 ^ i) ≡ 0
  pub others : (c i : ℕ) → c < p.k → p.k ≤ i → i < p.l → column_value p.field rows p.k c (2 ^ i) ≡ element rows i c

-- what is kept of a map: the parameters of the code that it was made for, whether its columns passed their test, and its rows
pub record KeptMap : Type 0 where
  pub code : Option Parameters
  pub tested : Bool
  pub rows : List (List ℕ)

-- The rows of a space with one row at each evaluation point, from the highest x-part down: row l - 1 - i is (2^i, value i).
pub record AreValues (p : Parameters) (rows values : List ℕ) : Type 0 where
  pub count : length rows ≡ p.l
  pub below : IsOver p.field.degree values
  pub x : (t : ℕ) → t < p.l → get_or rows t 0 / 2 ^ p.field.degree ≡ 2 ^ (p.l - suc t)
  pub y : (t : ℕ) → t < p.l → get_or rows t 0 % 2 ^ p.field.degree ≡ slice_index values (p.l - suc t)
