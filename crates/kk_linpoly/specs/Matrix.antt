-- Matrices over GF(2^m), as the lists of their rows. A row is the list of its elements.
use Rattle.std.specs.Prelude.{◌≡◌, ℕ, ◌+◌, ◌*◌, ◌/◌, ◌%◌, ◌^◌, ◌<◌, List, [], length, map, get_or, slice_index}
use Rattle.std.specs.List.{range_with_len}
use Rattle.kk_field.specs.Polynomial.{product}
use Rattle.kk_field.specs.Field.{Modulus, field_product}
use Rattle.kk_linpoly.specs.LinPoly.{xor_sum}
use Rattle.kk_linpoly.specs.declared.comb.TheConstants.{BLOCK}
use Rattle.kk_linpoly.specs.declared.matrix.TheConstants.{MAX_COLUMNS}

-- entry i of the row times entry i of the vector, summed over the vector's entries
abbrev pub row_product : Modulus → List ℕ → List ℕ → ℕ
row_product f vector row = xor_sum (λ i. field_product f (slice_index row i) (slice_index vector i)) (length vector)

-- ---- digits of four bits

-- digit d of x, from the lowest, which is digit 0
abbrev pub digit : ℕ → ℕ → ℕ
digit d x = x / 2 ^ (4 * d) % 16

-- list d has digit d of each element
abbrev pub digits_of : List ℕ → List (List ℕ)
digits_of elements = map (λ d. map (digit d) elements) (range_with_len 0 16)

-- a row is kept by its elements and their digits
pub record IsRow (elements : List ℕ) (digits : List (List ℕ)) : Type 0 where
  pub count : length elements ≡ MAX_COLUMNS
  pub digits_are : digits ≡ digits_of elements

-- ---- columns that are taken together

-- entry i of the row times entry i of the vector, summed over the columns from first on
abbrev pub block_product : Modulus → List ℕ → ℕ → List ℕ → ℕ
block_product f vector first row = xor_sum (λ i. field_product f (slice_index row (first + i)) (slice_index vector (first + i))) BLOCK

-- window i has the carry-less products of entry first + i of the vector, 0 past its end, and the numbers below 16
pub record AreWindows (vector : List ℕ) (first : ℕ) (windows : List (List ℕ)) : Type 0 where
  pub entries : (i k : ℕ) → i < BLOCK → k < 16 → slice_index (get_or windows i []) k ≡ product (slice_index vector (first + i)) k
