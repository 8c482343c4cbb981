-- How far a row is from the graph of a polynomial.
use Rattle.std.specs.Prelude.{ℕ, ◌/◌, ◌%◌, ◌^◌, List, bit_xor}
use Rattle.kk_field.specs.Field.{Modulus}
use Rattle.kk_linpoly.specs.LinPoly.{value}

-- the sum of y and the value of u at x, for the row (x, y): 0 on the graph of u alone
abbrev pub offset : Modulus → List ℕ → ℕ → ℕ
offset f u r = bit_xor (r % 2 ^ f.degree) (value f u (r / 2 ^ f.degree))
