use Rattle.std.proofs.Common.{◌≡◌, ℕ, ◌+◌, ◌*◌, ◌<◌, ◌≤◌}
use Rattle.std.specs.Prelude.{slice_index}
use Rattle.kk_linpoly.specs.LinPoly.{raised, squared_up}
use Rattle.kk_linpoly.proofs.places.raise_each.Given as goal

-- the places below that of c are done
abbrev pub invariant-loop-c : goal.invariant-loop-c
invariant-loop-c g l = record {
  done : (k : ℕ) → k < l.c-index → slice_index l.coefficients k ≡ slice_index (raised l.ring l.d l.fn.coefficients) k;
  left : (k : ℕ) → l.c-index ≤ k → slice_index l.coefficients k ≡ slice_index l.fn.coefficients k;
  square_is : l.square ≡ slice_index (squared_up l.ring l.fn.coefficients) l.c-index;
  counted : l.steps ≤ l.fn.steps + 2 * l.c-index;
}
