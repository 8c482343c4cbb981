use Rattle.std.proofs.Common.{◌≡◌, ℕ, ◌+◌, ◌-◌, ◌*◌, List, slice_index}
use Rattle.kk_linpoly.specs.LinPoly.{IsOver}
use Rattle.kk_linpoly.specs.Matrix.{AreWindows}
use Rattle.kk_linpoly.specs.declared.comb.TheConstants.{BLOCK}
use Rattle.kk_linpoly.proofs.Combs.{from_place}
use Rattle.kk_linpoly.proofs.comb.middle_row_sum.Given as goal

-- the sum of the products with the digits so far
abbrev pub invariant-loop-d : goal.invariant-loop-d
invariant-loop-d l = (vector : List ℕ) → AreWindows vector l.first l.windows → IsOver 64 vector
    → l.sum ≡ from_place (λ i. slice_index vector (l.first + i)) (λ i. slice_index l.row (l.first + i)) BLOCK (4 * (l.places - l.d))
