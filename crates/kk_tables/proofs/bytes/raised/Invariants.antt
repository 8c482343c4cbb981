use Rattle.std.proofs.Common.{◌≡◌, ◌*◌, ◌^◌, ◌<◌}
use Rattle.kk_field.specs.Field.{residue}
use Rattle.kk_tables.proofs.bytes.raised.Given as goal

abbrev pub invariant-loop : goal.invariant-loop
invariant-loop l = record {
  power_is : l.power ≡ residue l.ring (l.a * 2 ^ l.counter);
  power_below : l.power < 2 ^ l.ring.degree;
}
