-- The encoder by tables. The value of a message's polynomial at 2^i is the sum of its terms, which are symbol j times the
-- i-th power of X^(2^j).
use Rattle.std.specs.Prelude.{◌≡◌, ℕ, zero, suc, ◌+◌, ◌-◌, ◌*◌, ◌/◌, ◌%◌, ◌^◌, ◌<◌, ◌≤◌, List, [], length, slice_index, get_or, bit_xor}
use Rattle.kk_field.specs.Field.{Modulus, field_product, frobenius, power}
use Rattle.kk_tables.specs.Tables.{IsTableOf}
use Rattle.kk_linpoly.specs.LinPoly.{xor_sum}
use Rattle.kk_code.specs.Codeword.{Parameters}
use Rattle.kk_code.specs.declared.code.TheConstants.{MAX_POINTS}
use Rattle.kk_code.specs.declared.terms.Terms.{Terms}

-- the products of x and b^1, .. b^n, each in m bits, the next above the last
unfoldable pub multiples : Modulus → ℕ → ℕ → ℕ → ℕ
multiples f b zero x = 0
multiples f b (suc n) x = bit_xor (multiples f b n x) (field_product f x (power f b (suc n)) * 2 ^ (f.degree * n))

-- how many values of m bits a word has
abbrev pub per_word : Parameters → ℕ
per_word p = 64 / p.field.degree

-- the element X^(2^j), by whose powers symbol j is multiplied
abbrev pub base : Parameters → ℕ → ℕ
base p j = frobenius p.field j 2

-- table j has the products of symbol j and its first n powers
pub record AreTables (p : Parameters) (n : ℕ) (tables : List (List ℕ)) : Type 0 where
  pub count : length tables ≡ p.k
  pub maps : (j : ℕ) → j < p.k → IsTableOf (multiples p.field (base p j) n) (get_or tables j [])

-- there is a table for each symbol, with the products by as many powers as a word has room for
pub record IsEncoder (p : Parameters) (n : ℕ) (tables : List (List ℕ)) : Type 0 where
  pub count : n ≡ per_word p
  pub made : AreTables p n tables

-- ---- terms and their sums

-- one element of the field for each symbol
pub record AreElements (p : Parameters) (terms : List ℕ) : Type 0 where
  pub long : length terms ≡ MAX_POINTS
  pub below : (j : ℕ) → j < p.k → slice_index terms j < 2 ^ p.field.degree

-- the sums of the terms' products, in a word
abbrev pub word_of : Parameters → List ℕ → ℕ
word_of p terms = xor_sum (λ j. multiples p.field (base p j) (per_word p) (slice_index terms j)) p.k

-- what term j is after the points of a word
abbrev pub next_term : Parameters → ℕ → ℕ → ℕ
next_term p x j = field_product p.field x (power p.field (base p j) (per_word p))

-- term j of the message at 2^i
abbrev pub term : Parameters → List ℕ → ℕ → ℕ → ℕ
term p u i j = field_product p.field (slice_index u j) (power p.field (base p j) i)

-- their sum
abbrev pub value_at : Parameters → List ℕ → ℕ → ℕ
value_at p u i = xor_sum (term p u i) p.k

-- the values from 2^i on: those that are left in the word, and the terms at the point of the last of these
pub record AreValuesFrom (p : Parameters) (u : List ℕ) (i : ℕ) (t : Terms) : Type 0 where
  pub some : 1 ≤ i + t.left
  pub terms : (j : ℕ) → j < p.k → slice_index t.at_last j ≡ term p u (i + t.left - 1) j
  pub word : (r : ℕ) → r < t.left → t.word / 2 ^ (p.field.degree * r) % 2 ^ p.field.degree ≡ value_at p u (i + r)
