use Rattle.std.proofs.Common.{◌≡◌, ◌≤◌, length, take}
use Rattle.kk_linpoly.specs.LinPoly.{trimmed}
use Rattle.kk_linpoly.proofs.places.trimmed_len.Given as goal

-- what was passed is 0
abbrev pub invariant-loop-len : goal.invariant-loop-len
invariant-loop-len l = record {
  within : l.len ≤ length l.coefficients;
  same : trimmed (take l.len l.coefficients) ≡ trimmed l.coefficients;
}

abbrev pub decreases-loop-len : goal.decreases-loop-len
decreases-loop-len l = l.len
