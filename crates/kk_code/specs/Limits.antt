-- The limits of the parameters of a code, and the first of them that is broken.
use Rattle.std.specs.Prelude.{ℕ, ◌<◌, ◌≤◌, ◌⊎◌}
use Rattle.kk_code.specs.declared.bad_params.BadParams.{BadParams}
use Rattle.kk_code.specs.declared.bad_params.BadParams.TheVariants.{M, L, K}
use Rattle.kk_code.specs.Codeword.{Parameters}

-- n is low to high
pub record IsWithin (low high n : ℕ) : Type 0 where
  pub at_least : low ≤ n
  pub at_most : n ≤ high

-- n is not low to high
abbrev pub IsOutside : ℕ → ℕ → ℕ → Type 0
IsOutside low high n = (n < low) ⊎ (high < n)

-- The limits in their order: m is 2 to 64, l is 1 to m, k is 1 to l. One is the first to be broken where all before it are
-- kept.
abbrev pub IsFirstBroken : Parameters → BadParams → Type 0
IsFirstBroken p M = IsOutside 2 64 p.field.degree
IsFirstBroken p L = IsWithin 2 64 p.field.degree × IsOutside 1 p.field.degree p.l
IsFirstBroken p K = IsWithin 2 64 p.field.degree × IsWithin 1 p.field.degree p.l × IsOutside 1 p.l p.k
