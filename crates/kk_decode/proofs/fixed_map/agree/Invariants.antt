use Rattle.std.proofs.Common.{◌≡◌, ℕ, ◌≤◌, ◌<◌, slice_index}
use Rattle.kk_decode.proofs.fixed_map.agree.Given as goal

abbrev pub invariant-loop-i : goal.invariant-loop-i
invariant-loop-i l = record { same : (j : ℕ) → l.from ≤ j → j < l.i → slice_index l.image j ≡ slice_index l.values j }
