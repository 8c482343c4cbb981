use Rattle.std.proofs.Common.{◌≡◌, ◌+◌, ◌≤◌, ◌++◌, take, drop, map}
use Rattle.kk_field.specs.Field.{field_product}
use Rattle.kk_linpoly.proofs.places.square_each.Given as goal

abbrev pub invariant-loop-c : goal.invariant-loop-c
invariant-loop-c g l = record {
  squares_are : l.coefficients ≡ map (λ c. field_product l.ring c c) (take l.c-index l.fn.coefficients) ++ drop l.c-index l.fn.coefficients;
  counted : l.steps ≤ l.fn.steps + l.c-index;
}
