use Rattle.std.proofs.Common.{◌<◌, length, ap, ◌∙◌, arith}
use Rattle.std.specs.Prelude.{slice_index, slice_set}
use Rattle.std.proofs.lemmas.List.{get_or_default}
use Rattle.std.proofs.lemmas.List.Edits.{map_over_more}
use Rattle.kk_field.specs.Field.{field_product}
use Rattle.kk_linpoly.proofs.places.scale_each.Goals as goal

pub loop-c-preserved : goal.loop-c-preserved
loop-c-preserved g c =
    let f = c.args.ring.now in
    let cs = c.loop-c.coefficients in
    let i = c.loop-c.c-index in
    let within : i < length cs = omega (arith, c.loop-c.auto.coefficients, c.loop-c-test.true) in
    record {
      multiples_are = ap (slice_set cs i) c.mul.ensures.value
          ∙ map_over_more (field_product f c.args.a) c.args.coefficients.now cs i (slice_index cs i) c.loop-c-test.true c.loop-c.invariant.multiples_are
          (get_or_default cs i 0 (slice_index cs i) within);
      counted = omega (arith, c.loop-c.invariant.counted, c.mul.ensures.cost);
    }
