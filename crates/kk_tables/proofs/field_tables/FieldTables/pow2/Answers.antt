use Rattle.std.proofs.Common.{refl, ap, ◌∙◌, arith}
use Rattle.std.proofs.Math.Numerals.{add-one}
use Rattle.kk_field.specs.Field.{field_product, frobenius}
use Rattle.kk_tables.proofs.field_tables.FieldTables.pow2.Goals as goal

pub loop-init : goal.loop-init
unfolding frobenius
loop-init g c = record { power_is = refl; power_below = c.requires.a_below; counted = omega arith }

pub loop-preserved : goal.loop-preserved
unfolding frobenius
loop-preserved g c =
    let inv = c.loop.invariant in
    record {
      power_is = rw (add-one c.loop.counter) (c.square-power.ensures.value ∙ ap (λ x. field_product c.args.self.now x x) inv.power_is);
      power_below = c.square-power.ensures.below;
      counted = omega (arith, inv.counted, c.square-power.ensures.cost);
    }
