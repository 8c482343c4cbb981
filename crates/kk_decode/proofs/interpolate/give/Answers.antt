use Rattle.std.proofs.Common.{◌≡◌, ℕ, ◌+◌, ◌*◌, ◌^◌, ◌<◌, ◌≤◌, List, ◌++◌, [], ◌∷◌, length, map, take, get_or, sym, ap, ap₂, ◌∙◌, arith, length-append, append_assoc}
use Rattle.std.proofs.lemmas.Nat.{mul-le}
use Rattle.std.proofs.lemmas.List.{map-append}
use Rattle.kk_rows.specs.declared.rows.Row.{Row}
use Rattle.kk_rows.specs.Rows.{numbers}
use Rattle.kk_rows.proofs.RowLists.{numbers_each, numbers-take_more}
use Rattle.kk_code.specs.Codeword.{width}
use Rattle.kk_decode.specs.Solving.{point_of}
use Rattle.kk_decode.proofs.Rows.{length_points}
use Rattle.kk_decode.proofs.interpolate.give.Given.{Over}
use Rattle.kk_decode.proofs.interpolate.give.Goals as goal
use Rattle.kk_decode.proofs.interpolate.give.Goals.{After-parts-x}

pub parts-x-requires : goal.parts-x-requires
parts-x-requires g c = numbers_each (λ r. r < 2 ^ width c.args.code.now) c.args.rows.now c.loop-row.row-index c.requires.below c.loop-row-test.true

-- how many points there are before a row
many : (g : Over) (c : After-parts-x g) → length c.loop-row.interp.points ≡ length c.args.interp.now.points + c.loop-row.row-index
many g c =
    let f = c.args.code.now.field in
    let items = c.args.rows.now in
    let i = c.loop-row.row-index in
    let before = c.args.interp.now.points in
    ap length c.loop-row.invariant.points ∙ length-append before (map (point_of f) (numbers (take i items)))
    ∙ ap (λ n. length before + n) (length_points (point_of f) items i (omega (arith, c.loop-row-test.true)))

pub point-requires-clause-room : goal.point-requires-clause-room
point-requires-clause-room g c =
    omega (arith, many g (goal.at.point-requires-clause-room g c).After-parts-x, c.loop-row.invariant.k, c.requires.room, c.loop-row-test.true)

pub loop-row-preserved : goal.loop-row-preserved
loop-row-preserved g c =
    let items = c.args.rows.now in
    let i = c.loop-row.row-index in
    let r = length items in
    let before = c.args.interp.now.points in
    let inv = c.loop-row.invariant in
    let P : List Row → List (ℕ × ℕ) = λ rows. map (point_of c.args.code.now.field) (numbers rows) in
    let point : ℕ × ℕ = (c.parts-x.result.0, c.parts-x.result.1) in
    let row = (get_or items i (record { 0 = 0 })).0 in
    let point_is : point ≡ point_of c.args.code.now.field row = ap₂ (λ x y. (x, y)) c.parts-x.ensures.x c.parts-x.ensures.y in
    let more : P (take i items) ++ point ∷ [] ≡ P (take (i + 1) items) =
    ap (λ q. P (take i items) ++ q ∷ []) point_is
    ∙ sym (ap (map (point_of c.args.code.now.field)) (numbers-take_more items i c.loop-row-test.true)
    ∙ map-append (point_of c.args.code.now.field) (numbers (take i items)) (row ∷ [])) in
    let each : 32 * (c.loop-row.interp.k + length c.loop-row.interp.points + 1) ≤ 32 * (c.args.interp.now.k + length before + r) =
    omega (arith, inv.k, many g (goal.at.loop-row-preserved g c).After-parts-x, c.loop-row-test.true) in
    record {
      field = c.point.ensures.field ∙ inv.field;
      k = c.point.ensures.k ∙ inv.k;
      points = c.point.ensures.points ∙ ap (λ l. l ++ point ∷ []) inv.points ∙ append_assoc before (P (take i items)) (point ∷ [])
          ∙ ap (λ l. before ++ l) more;
      counted = omega (arith, inv.counted, c.point.ensures.cost, each);
    }

pub returns-clause-cost : goal.returns-clause-cost
returns-clause-cost g c =
    let r = length c.args.rows.now in
    let each = 32 * (c.args.interp.now.k + length c.args.interp.now.points + r) in
    omega (arith, c.loop-row.invariant.counted, mul-le c.loop-row.row-index each r each c.loop-row.auto.row-index-end (omega arith))
