use Rattle.std.proofs.Common.{◌^◌, ◌<◌}
use Rattle.kk_yard.proofs.elements.squares.Given as goal

abbrev pub invariant-loop : goal.invariant-loop
invariant-loop g l = l.a < 2 ^ l.field.degree
