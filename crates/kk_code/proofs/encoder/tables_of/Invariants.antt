use Rattle.std.proofs.Common.{◌≡◌, ℕ, ◌/◌, ◌^◌, ◌<◌, ◌≤◌, [], length, get_or, vec_capacity}
use Rattle.kk_field.specs.Field.{frobenius}
use Rattle.kk_tables.specs.Tables.{IsTableOf}
use Rattle.kk_code.specs.Encoder.{multiples}
use Rattle.kk_code.proofs.encoder.tables_of.Given as goal

-- the tables before place j
abbrev pub invariant-loop-j : goal.invariant-loop-j
invariant-loop-j g l = record {
  count : length l.tables.items ≡ l.j;
  room : l.k ≤ vec_capacity l.tables;
  base_is : l.base ≡ frobenius l.field l.j 2;
  below : l.base < 2 ^ l.field.degree;
  done : (i : ℕ) → i < l.j → IsTableOf (multiples l.field (frobenius l.field i 2) (64 / l.field.degree)) (get_or l.tables.items i []);
}
