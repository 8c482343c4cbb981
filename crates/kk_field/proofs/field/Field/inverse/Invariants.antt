use Rattle.std.proofs.Common.{◌≡◌, ◌+◌, ◌-◌, ◌*◌, ◌^◌, ◌<◌, ◌≤◌}
use Rattle.kk_field.specs.Field.{field_product, frobenius, power}
use Rattle.kk_field.proofs.field.Field.inverse.Given as goal

-- power is a^(2^i) and inverse a^(2^i - 2), which the product with a says with no subtraction below 0
abbrev pub invariant-loop : goal.invariant-loop
invariant-loop g l = record {
  power_is : l.power ≡ frobenius l.ring l.counter l.a;
  power_below : l.power < 2 ^ l.ring.degree;
  inverse_is : field_product l.ring l.inverse l.a ≡ power l.ring l.a (2 ^ l.counter - 1);
  inverse_below : l.inverse < 2 ^ l.ring.degree;
  counted : l.steps + 1 ≤ l.fn.steps + 2 * l.counter;
}
