use Rattle.std.proofs.Common.{◌≡◌, ℕ, ◌^◌, ◌<◌, length, slice_index}
use Rattle.kk_tables.specs.Tables.{DoublesBy}
use Rattle.kk_tables.proofs.bytes.units.Given as goal

-- the images of the numbers before 2^j
abbrev pub invariant-loop-j : goal.invariant-loop-j
invariant-loop-j l = record {
  long : length l.units ≡ 64;
  below : l.unit < 2 ^ l.ring.degree;
  next : (image : ℕ → ℕ) → DoublesBy l.ring l.times image → image 1 ≡ l.one → l.unit ≡ image (2 ^ l.j);
  done : (image : ℕ → ℕ) → DoublesBy l.ring l.times image → image 1 ≡ l.one → (i : ℕ) → i < l.j → slice_index l.units i ≡ image (2 ^ i);
}
