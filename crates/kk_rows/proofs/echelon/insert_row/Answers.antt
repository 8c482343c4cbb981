use Rattle.std.proofs.Common.{◌<◌, ◌^◌, length, drop, sym, ap, ◌∙◌, subst, arith}
use Rattle.std.specs.Prelude.{All}
use Rattle.kk_rows.specs.Rows.{numbers}
use Rattle.kk_rows.specs.Span.{in_span}
use Rattle.kk_rows.specs.Echelon.{IsReduced, HasLeads}
use Rattle.kk_rows.proofs.Insertions.{moved_numbers, moved_is_reduced, moved_below, moved_leads, moved_spans}
use Rattle.kk_rows.proofs.echelon.insert_row.Goals as goal

pub returns-clause-reduced : goal.returns-clause-reduced
returns-clause-reduced g c =
    let rows = numbers (drop 1 c.args.rows.now) in
    let p = c.move_above-place.result in
    let e = c.move_above-place.ensures in
    let within : p < length c.move_above-place.new.rows = omega (arith, e.within, c.move_above-place.auto.rows) in
    subst IsReduced (sym (moved_numbers c.args.rows.now c.move_above-place.new.rows c.args.v p within e.front e.back))
    (moved_is_reduced c.args.v.0 c.requires.some rows p c.requires.reduced c.requires.clear e.above e.below)

pub returns-clause-below : goal.returns-clause-below
returns-clause-below g c n each small =
    let rows = numbers (drop 1 c.args.rows.now) in
    let p = c.move_above-place.result in
    let e = c.move_above-place.ensures in
    let within : p < length c.move_above-place.new.rows = omega (arith, e.within, c.move_above-place.auto.rows) in
    subst (All (λ r. r < 2 ^ n)) (sym (moved_numbers c.args.rows.now c.move_above-place.new.rows c.args.v p within e.front e.back))
    (moved_below c.args.v.0 c.requires.some rows p c.requires.reduced c.requires.clear e.above e.below n each small)

pub returns-clause-span : goal.returns-clause-span
returns-clause-span g c x =
    let rows = numbers (drop 1 c.args.rows.now) in
    let p = c.move_above-place.result in
    let e = c.move_above-place.ensures in
    let within : p < length c.move_above-place.new.rows = omega (arith, e.within, c.move_above-place.auto.rows) in
    ap (λ l. in_span l x) (moved_numbers c.args.rows.now c.move_above-place.new.rows c.args.v p within e.front e.back)
    ∙ moved_spans c.args.v.0 c.requires.some rows p c.requires.reduced c.requires.clear e.above e.below x

pub returns-clause-leads : goal.returns-clause-leads
returns-clause-leads g c leads old new =
    let rows = numbers (drop 1 c.args.rows.now) in
    let p = c.move_above-place.result in
    let e = c.move_above-place.ensures in
    let within : p < length c.move_above-place.new.rows = omega (arith, e.within, c.move_above-place.auto.rows) in
    subst (HasLeads leads) (sym (moved_numbers c.args.rows.now c.move_above-place.new.rows c.args.v p within e.front e.back))
    (moved_leads c.args.v.0 c.requires.some rows p c.requires.reduced c.requires.clear e.above e.below leads old new)
