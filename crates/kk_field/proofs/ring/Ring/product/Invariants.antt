use Rattle.std.proofs.Common.{◌≡◌, ◌*◌, ◌^◌, ◌<◌}
use Rattle.kk_field.specs.Polynomial.{product_below}
use Rattle.kk_field.specs.Field.{residue}
use Rattle.kk_field.proofs.ring.Ring.product.Given as goal

-- the sum of the terms below place i, and the term of place i
abbrev pub invariant-loop-i : goal.invariant-loop-i
invariant-loop-i l = record {
  sum_is : l.sum ≡ residue l.self (product_below l.a l.b l.i);
  sum_below : l.sum < 2 ^ l.self.degree;
  shifted_is : l.shifted ≡ residue l.self (l.a * 2 ^ l.i);
  shifted_below : l.shifted < 2 ^ l.self.degree;
}
