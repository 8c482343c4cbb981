use Rattle.std.proofs.Common.{◌^◌, ◌<◌}
use Rattle.kk_yard.proofs.elements.products.Given as goal

abbrev pub invariant-loop : goal.invariant-loop
invariant-loop g l = (l.a < 2 ^ l.field.degree) × (l.b < 2 ^ l.field.degree)
