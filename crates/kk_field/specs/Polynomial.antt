-- Polynomials over GF(2) as whole numbers: bit i is the coefficient of X^i, and the sum is the exclusive or.
use Rattle.std.specs.Prelude.{◌≡◌, ℕ, zero, suc, ◌+◌, ◌-◌, ◌*◌, ◌^◌, ◌<◌, ◌≤◌, Bool, not, ◌&&◌, ◌==◌, nat_le, bit_xor}
use Rattle.std.specs.List.{list_any, range_with_len}
use Rattle.std.specs.Int.{bit_at}

-- a times the terms of b below X^n: the sum of a·X^i over the places i below n at which b has a 1
unfoldable pub product_below : ℕ → ℕ → ℕ → ℕ
product_below a b zero = 0
product_below a b (suc i) = bit_xor (product_below a b i) (bit_at b i * (a * 2 ^ i))

-- The carry-less product, the product of the polynomials: a number b has no 1 from place b on.
unfoldable pub product : ℕ → ℕ → ℕ
product a b = product_below a b b

-- a has the degree k.
pub record HasDegree (a k : ℕ) : Type 0 where
  pub at_least : 2 ^ k ≤ a
  pub below : a < 2 ^ suc k

-- No product of two polynomials of degree at least 1.
pub record IsIrreducible (p : ℕ) : Type 0 where
  pub at_least_two : 2 ≤ p
  pub no_factors : (a b : ℕ) → 2 ≤ a → 2 ≤ b → product a b ≡ p → ⊥

-- a is a factor of p: a times some number from 2 to p is p
abbrev pub is_factor : ℕ → ℕ → Bool
is_factor p a = list_any (λ b. product a b == p) (range_with_len 2 (p - 1))

-- Whether p is irreducible, as `IsIrreducible` says, decided by trying: p is at least 2, and none of the numbers from 2 to
-- p is a factor of it. No factor is above p, since the degree of a product is the sum of the degrees.
unfoldable pub irreducible : ℕ → Bool
irreducible p = nat_le 2 p && not (list_any (is_factor p) (range_with_len 2 (p - 1)))

-- r is what a division by p, of degree m, leaves of a.
pub record IsRemainder (m p a r : ℕ) : Type 0 where
  pub below : r < 2 ^ m
  pub quotient : (q : ℕ) × (a ≡ bit_xor (product p q) r)

-- Long division by p, of degree m: what is left of a when its places from m + n - 1 down to m are cancelled.
unfoldable pub remainder_below : ℕ → ℕ → ℕ → ℕ → ℕ
remainder_below m p a zero = a
remainder_below m p a (suc n) = remainder_below m p (bit_xor a (bit_at a (m + n) * (p * 2 ^ n))) n

-- The remainder of a by p, of degree m: the only r with `IsRemainder m p a r` (`laws::remainder_is_unique`). A number a has
-- no 1 from place a on.
unfoldable pub remainder : ℕ → ℕ → ℕ → ℕ
remainder m p a = remainder_below m p a a
