use Rattle.std.proofs.Common.{List, ◌≡◌, ℕ, ◌+◌, ◌*◌, ◌<◌, ◌≤◌, length, take, bit_xor}
use Rattle.std.specs.Prelude.{slice_index}
use Rattle.kk_linpoly.specs.LinPoly.{SamePolynomial, IsOver, composed, composition}
use Rattle.kk_ore.proofs.low.cancel.Given as goal

-- the places below s have coefficients of the quotient, and the others what is left of a
abbrev pub invariant-loop-s : goal.invariant-loop-s
invariant-loop-s g l = record {
  sum_is : (n : ℕ) → l.s ≤ n
      → slice_index l.fn.remainder n ≡ bit_xor (composed l.ring (slice_index l.b) (slice_index (take l.s l.remainder)) n) (slice_index l.remainder n);
  agree : (u : List ℕ) → IsOver l.ring.degree u → SamePolynomial l.fn.remainder (composition l.ring l.b u)
      → (i : ℕ) → i < l.s → slice_index l.remainder i ≡ slice_index u i;
  over : IsOver l.ring.degree l.remainder;
  counted : l.steps ≤ l.fn.steps + 2 * l.ring.degree + l.s * (1 + 2 * length l.b);
}
