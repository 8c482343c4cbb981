use Rattle.std.proofs.Common.{◌≡◌, ℕ, ◌*◌, ◌^◌, ◌<◌, length, slice_index}
use Rattle.kk_field.specs.Field.{residue}
use Rattle.kk_code.specs.Encoder.{multiples}
use Rattle.kk_code.proofs.multiples.units.Given as goal

-- the multiples of the numbers before 2^j
abbrev pub invariant-loop-j : goal.invariant-loop-j
invariant-loop-j g l = record {
  long : length l.units ≡ 64;
  x_is : l.x ≡ residue l.field (1 * 2 ^ l.j);
  below : l.x < 2 ^ l.field.degree;
  done : (i : ℕ) → i < l.j → slice_index l.units i ≡ multiples l.field l.base l.n (2 ^ i);
}
