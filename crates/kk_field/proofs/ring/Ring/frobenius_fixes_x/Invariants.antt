use Rattle.std.proofs.Common.{◌≡◌, ◌^◌, ◌<◌}
use Rattle.kk_field.specs.Field.{frobenius}
use Rattle.kk_field.proofs.ring.Ring.frobenius_fixes_x.Given as goal

-- the squarings done so far
abbrev pub invariant-loop : goal.invariant-loop
invariant-loop l = record {
  power_is : l.power ≡ frobenius l.self l.counter l.x;
  power_below : l.power < 2 ^ l.self.degree;
}
