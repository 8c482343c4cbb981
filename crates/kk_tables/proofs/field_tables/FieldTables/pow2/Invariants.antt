use Rattle.std.proofs.Common.{◌≡◌, ◌+◌, ◌^◌, ◌<◌, ◌≤◌}
use Rattle.kk_field.specs.Field.{frobenius}
use Rattle.kk_tables.proofs.field_tables.FieldTables.pow2.Given as goal

-- the squarings done so far
abbrev pub invariant-loop : goal.invariant-loop
invariant-loop g l = record {
  power_is : l.power ≡ frobenius l.self l.counter l.a;
  power_below : l.power < 2 ^ l.self.degree;
  counted : l.steps ≤ l.initial.steps + l.counter;
}
