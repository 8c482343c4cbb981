-- Lists of elements of the field.
use Rattle.std.proofs.Common.{ℕ, ◌^◌, ◌<◌, List, replicate, set, bit_xor}
use Rattle.std.specs.Prelude.{slice_index}
use Rattle.std.proofs.Math.Pow.{pow_pos}
use Rattle.std.proofs.lemmas.List.Elements.{All-set, All-replicate}
use Rattle.std.specs.Int.Bits.{xor_lt}
use Rattle.kk_linpoly.specs.LinPoly.{IsOver}
use Rattle.kk_linpoly.proofs.Coefficients.{coefficient-lt}

pub IsOver-zeros : (m n : ℕ) → IsOver m (replicate n 0)
IsOver-zeros m n = All-replicate (λ c. c < 2 ^ m) n 0 (pow_pos m)

pub IsOver-set : (m : ℕ) (cs : List ℕ) (i c : ℕ) → c < 2 ^ m → IsOver m cs → IsOver m (set cs i c)
IsOver-set m cs i c below over = All-set (λ c. c < 2 ^ m) cs i c below over

-- a coefficient more
pub xor_coefficient-lt : (m a : ℕ) (cs : List ℕ) (i : ℕ) → a < 2 ^ m → IsOver m cs → bit_xor a (slice_index cs i) < 2 ^ m
xor_coefficient-lt m a cs i below over = xor_lt m a (slice_index cs i) below (coefficient-lt m cs over i)
