use Rattle.std.proofs.Common.{◌≡◌, ℕ, ◌+◌, ◌*◌, ◌<◌, ◌≤◌, length, bit_xor}
use Rattle.std.specs.Prelude.{slice_index}
use Rattle.kk_linpoly.specs.LinPoly.{IsOver, composed}
use Rattle.kk_ore.proofs.right.cancel.Given as goal

-- the places from s on are done
abbrev pub invariant-loop-s : goal.invariant-loop-s
invariant-loop-s g l = record {
  sum_is : (n : ℕ) → slice_index l.fn.remainder n ≡ bit_xor (composed l.ring (slice_index l.quotient) (slice_index l.b) n) (slice_index l.remainder n);
  free : (n : ℕ) → n < l.s → slice_index l.quotient n ≡ 0;
  ends : (n : ℕ) → l.s + length l.b ≤ n + 1 → slice_index l.remainder n ≡ 0;
  quotient_over : IsOver l.ring.degree l.quotient;
  remainder_over : IsOver l.ring.degree l.remainder;
  long : length l.quotient ≡ 128;
  counted : l.steps + l.s * (l.places * (length l.b + 1)) ≤ l.fn.steps + 2 * l.ring.degree + l.places * (l.places * (length l.b + 1));
}
