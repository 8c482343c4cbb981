use Rattle.std.proofs.Common.{◌≡◌, ℕ, ◌+◌, ◌*◌, ◌≤◌, length, take, map}
use Rattle.std.specs.Prelude.{slice_index}
use Rattle.kk_field.specs.Field.{frobenius}
use Rattle.kk_linpoly.specs.LinPoly.{composed}
use Rattle.kk_linpoly.proofs.lin_poly.LinPoly.compose.Given as goal

-- the sum is the composition of the coefficients so far and g
abbrev pub invariant-loop-i : goal.invariant-loop-i
invariant-loop-i g l = record {
  sum_is : (n : ℕ) → slice_index l.sum n ≡ composed l.ring (slice_index (take l.i l.c-items)) (slice_index l.g) n;
  powers_are : take l.g-inside.len l.powers ≡ map (frobenius l.ring l.i) l.g;
  counted : l.steps ≤ l.fn.steps + l.i * (2 * length l.g);
}
