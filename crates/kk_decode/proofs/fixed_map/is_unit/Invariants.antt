use Rattle.std.proofs.Common.{◌≡◌, ◌≢◌, ℕ, ◌<◌, slice_index}
use Rattle.kk_decode.proofs.fixed_map.is_unit.Given as goal

abbrev pub invariant-loop-c : goal.invariant-loop-c
invariant-loop-c l = record {
  one : l.i < l.c → slice_index l.values l.i ≡ 1;
  zeros : (j : ℕ) → j < l.c → j ≢ l.i → slice_index l.values j ≡ 0;
}
