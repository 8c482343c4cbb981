use Rattle.std.proofs.Common.{◌≡◌, ℕ, length}
use Rattle.kk_rows.specs.AdditiveMap.{IsAdditive}
use Rattle.kk_tables.specs.Tables.{IsTableUpTo, HasUnits}
use Rattle.kk_tables.proofs.bytes.make_table_of.Given as goal

-- the entries before n
abbrev pub invariant-loop-n : goal.invariant-loop-n
invariant-loop-n l = record {
  long : length l.table ≡ 2048;
  value : (image : ℕ → ℕ) → IsAdditive image → HasUnits image l.units → IsTableUpTo image l.n l.table;
}
