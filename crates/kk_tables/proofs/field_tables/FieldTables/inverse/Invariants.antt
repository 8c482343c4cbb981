use Rattle.std.proofs.Common.{◌≡◌, ◌+◌, ◌-◌, ◌*◌, ◌/◌, ◌^◌, ◌<◌, ◌≤◌}
use Rattle.kk_field.specs.Field.{field_product, frobenius}
use Rattle.kk_tables.proofs.field_tables.FieldTables.inverse.Given as goal

-- power is a^(2^n - 1), which its product with a says with no subtraction below 0; n is the first digits of m - 1
abbrev pub invariant-loop-i : goal.invariant-loop-i
invariant-loop-i g l = record {
  power_is : field_product l.self l.power l.a ≡ frobenius l.self (l.last / 2 ^ (l.top - l.i)) l.a;
  power_below : l.power < 2 ^ l.self.degree;
  some : 1 ≤ l.last / 2 ^ (l.top - l.i);
  counted : l.steps + 2 ≤ l.fn.steps + 2 * (l.last / 2 ^ (l.top - l.i));
}
