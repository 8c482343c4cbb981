use Rattle.std.proofs.Common.{◌<◌, length, ap, ◌∙◌, arith}
use Rattle.std.specs.Prelude.{slice_index, slice_set}
use Rattle.std.proofs.lemmas.List.{get_or_default}
use Rattle.std.proofs.lemmas.List.Edits.{map_over_more}
use Rattle.kk_field.specs.Field.{field_product}
use Rattle.kk_linpoly.proofs.places.square_each.Goals as goal

pub loop-c-preserved : goal.loop-c-preserved
loop-c-preserved g c =
    let f = c.args.ring.now in
    let cs = c.loop-c.coefficients in
    let i = c.loop-c.c-index in
    let within : i < length cs = omega (arith, c.loop-c.auto.coefficients, c.loop-c-test.true) in
    record {
      squares_are = ap (slice_set cs i) c.square.ensures.value
          ∙ map_over_more (λ x. field_product f x x) c.args.coefficients.now cs i (slice_index cs i) c.loop-c-test.true c.loop-c.invariant.squares_are
          (get_or_default cs i 0 (slice_index cs i) within);
      counted = omega (arith, c.loop-c.invariant.counted, c.square.ensures.cost);
    }
