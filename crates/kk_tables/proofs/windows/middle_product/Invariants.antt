use Rattle.std.proofs.Common.{◌≡◌, ◌-◌, ◌*◌, ◌/◌, ◌^◌}
use Rattle.kk_field.specs.Polynomial.{product}
use Rattle.kk_tables.proofs.windows.middle_product.Given as goal

-- the product by the digits so far
abbrev pub invariant-loop-i : goal.invariant-loop-i
invariant-loop-i l = l.sum ≡ product l.a (l.b / 2 ^ (60 - 4 * l.i))
