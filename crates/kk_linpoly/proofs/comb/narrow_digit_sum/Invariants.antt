use Rattle.std.proofs.Common.{◌≡◌, ◌+◌, [], get_or, slice_index}
use Rattle.kk_linpoly.specs.LinPoly.{xor_sum}
use Rattle.kk_linpoly.proofs.comb.narrow_digit_sum.Given as goal

abbrev pub invariant-loop-i : goal.invariant-loop-i
invariant-loop-i l = l.sum ≡ xor_sum (λ i. slice_index (get_or l.windows i []) (slice_index l.digits (l.first + i))) l.i
