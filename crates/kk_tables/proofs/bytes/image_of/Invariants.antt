use Rattle.std.proofs.Common.{◌≡◌, ℕ, ◌*◌, ◌/◌, ◌^◌, bit_xor}
use Rattle.kk_rows.specs.AdditiveMap.{IsAdditive}
use Rattle.kk_tables.specs.Tables.{IsTableOf, looked_up}
use Rattle.kk_tables.proofs.bytes.image_of.Given as goal

-- the bytes so far, and those to come
abbrev pub invariant-loop-i : goal.invariant-loop-i
invariant-loop-i l = record {
  entries : l.sum ≡ looked_up l.table l.i l.x;
  remaining_is : l.remaining ≡ l.x / 2 ^ (8 * l.i);
  sum_is : (image : ℕ → ℕ) → IsAdditive image → IsTableOf image l.table → image l.x ≡ bit_xor l.sum (image (l.remaining * 2 ^ (8 * l.i)));
}
