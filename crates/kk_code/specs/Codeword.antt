-- The subspace code of Kötter and Kschischang (2008, section IV; crates/kk_code/README.md has the reference).
use Rattle.std.specs.Prelude.{◌≡◌, ℕ, ◌+◌, ◌*◌, ◌^◌, ◌<◌, ◌≤◌, List, length, map, All}
use Rattle.std.specs.List.{range_with_len}
use Rattle.kk_field.specs.Field.{Modulus}
use Rattle.kk_field.specs.Laws.{IsFieldModulus}
use Rattle.kk_linpoly.specs.LinPoly.{value}

-- The code over GF(2^m): l evaluation points, and messages of k symbols.
pub record Parameters : Type 0 where
  pub field : Modulus
  pub l : ℕ
  pub k : ℕ

-- the ambient dimension l + m: a row is below 2^width
abbrev pub width : Parameters → ℕ
width p = p.l + p.field.degree

-- the ranges of a code: m is 2 to 64, l is 1 to m, and k is 1 to l
pub record IsInRange (p : Parameters) : Type 0 where
  pub m_low : 2 ≤ p.field.degree
  pub m_high : p.field.degree ≤ 64
  pub low : p.field.low < 2 ^ p.field.degree
  pub l_low : 1 ≤ p.l
  pub l_high : p.l ≤ p.field.degree
  pub k_low : 1 ≤ p.k
  pub k_high : p.k ≤ p.l

-- the narrower ranges of a ticket's code: a row has at most 63 bits
pub record IsNarrow (p : Parameters) : Type 0 where
  pub m_high : p.field.degree ≤ 62
  pub wide : p.l + p.field.degree ≤ 63

-- what the laws of codewords ask of a code: a field, points below 2^m, and no more symbols than points
pub record IsCode (p : Parameters) : Type 0 where
  pub field : IsFieldModulus p.field
  pub l_high : p.l ≤ p.field.degree
  pub k_high : p.k ≤ p.l

-- k symbols of the field
pub record IsMessage (p : Parameters) (u : List ℕ) : Type 0 where
  pub len : length u ≡ p.k
  pub symbols : All (λ s. s < 2 ^ p.field.degree) u

-- the evaluation points 2^0, 2^1, .. 2^(l-1)
abbrev pub points : Parameters → List ℕ
points p = map (λ i. 2 ^ i) (range_with_len 0 p.l)

-- the row (x, y) as a number: x above the m bits of y
abbrev pub row_of : Parameters → ℕ → ℕ → ℕ
row_of p x y = x * 2 ^ p.field.degree + y

-- The codeword of u, by the rows (a, f(a)) at the evaluation points a, where f is the linearised polynomial with
-- the symbols of u as coefficients.
abbrev pub codeword : Parameters → List ℕ → List ℕ
codeword p u = map (λ a. row_of p a (value p.field u a)) (points p)
