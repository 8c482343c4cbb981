use Rattle.std.proofs.Common.{◌≡◌, ℕ, ◌<◌, ◌≤◌, ◌^◌, [], ◌&&◌, length, take, get_or, refl, sym, ap, ◌∙◌, subst, arith}
use Rattle.std.specs.Prelude.{All}
use Rattle.std.proofs.lemmas.List.{take_all, take_more_set, length-map, length-take-le}
use Rattle.kk_rows.specs.declared.rows.Row.{Row}
use Rattle.kk_rows.specs.declared.traced.Traced.{Traced}
use Rattle.kk_rows.specs.Rows.{numbers}
use Rattle.kk_rows.specs.Space.{Space}
use Rattle.kk_rows.specs.Span.{in_span}
use Rattle.kk_rows.specs.Echelon.{IsReduced}
use Rattle.kk_rows.proofs.Reduced.{length_reduced-le}
use Rattle.kk_rows.proofs.Meets.{meet_dimension_of_common}
use Rattle.kk_rows.proofs.RowLists.{numbers-take_more, numbers_each, numbers_taken_each}
use Rattle.kk_rows.proofs.Traces.{IsTraced, MeetSoFar, meet_none, rest_below, meet_inserted, meet_traced, meet_all}
use Rattle.kk_rows.proofs.row_space.RowSpace.meet.Goals as goal
use Rattle.kk_rows.proofs.row_space.RowSpace.meet.Goals.{After-rows-row-items, After-loop-row, After-cleared_by_all-cleared, then-cleared-eq0, else-cleared-eq0}

-- the rows of `a` are as narrow as those of `b`
items_below : (c : After-rows-row-items) → All (λ r. r < 2 ^ c.args.b.now.width) (numbers c.rows-row-items.result.now)
items_below c =
    subst (λ n. All (λ r. r < 2 ^ n) (numbers c.rows-row-items.result.now)) c.requires
    (subst (All (λ r. r < 2 ^ c.args.a.now.width)) (sym c.rows-row-items.ensures.rows) c.rows-row-items.ensures.below)

-- and there is room for each
items_few : (c : After-rows-row-items) → length c.rows-row-items.result.now ≤ 128
items_few c =
    let few = length_reduced-le c.args.a.now.width c.args.a.now.rows c.rows-row-items.ensures.reduced c.rows-row-items.ensures.below in
    let same = length-map c.rows-row-items.result.now (λ (row : Row). row.0) in
    let listed = ap length c.rows-row-items.ensures.rows in
    let fits = subst (λ (s : Space). s.width ≤ 128) c.b.view_is c.b.invariant.width_fits in
    omega (arith, c.requires)

pub loop-row-init : goal.loop-row-init
loop-row-init c = record {
  width = c.new-common.ensures.width ∙ ap (λ (s : Space). s.width) c.b.view_is;
  room = omega arith;
  so_far = subst (λ l. MeetSoFar [] c.args.b.now.rows l []) (sym c.new-common.ensures.rows) (meet_none c.args.b.now.rows);
}

pub reduce-requires : goal.reduce-requires
reduce-requires c =
    numbers_each (λ r. r < 2 ^ c.args.b.now.width) c.rows-row-items.result.now c.loop-row.row-index (items_below (goal.at.reduce-requires c).After-rows-row-items) (omega arith)

pub slice_bounds-traces-end : goal.slice_bounds-traces-end
slice_bounds-traces-end c =
    let few = items_few (goal.at.slice_bounds-traces-end c).After-rows-row-items in
    omega (arith, c.loop-row.invariant.room, c.reduce.array_long)

pub slice_bounds-cleared_by_all-end : goal.slice_bounds-cleared_by_all-end
slice_bounds-cleared_by_all-end c =
    let few = items_few (goal.at.slice_bounds-cleared_by_all-end c).After-rows-row-items in
    sym (length-take-le c.loop-row.len c.loop-row.traces (omega (arith, c.loop-row.invariant.room, c.reduce.array_long)))

pub bounds-traces-len : goal.bounds-traces-len
bounds-traces-len c =
    let few = items_few (goal.at.bounds-traces-len c).After-rows-row-items in
    omega (arith, c.loop-row.invariant.room)

pub insert-requires : goal.insert-requires
insert-requires c =
    let items = c.rows-row-items.result.now in
    let u = get_or items c.loop-row.row-index record { 0 = 0 } in
    let start : Traced = record { source = u; image = c.reduce.result } in
    let each = numbers_taken_each (λ r. r < 2 ^ c.args.b.now.width) items c.loop-row.row-index (items_below (goal.at.insert-requires c).After-rows-row-items) (omega arith) in
    let traced : IsTraced c.args.b.now.rows start = record { differs = c.reduce.ensures.difference; clear = c.reduce.ensures.clear } in
    rw c.loop-row.invariant.width (rest_below (numbers (take c.loop-row.row-index items)) c.args.b.now.rows c.loop-row.common.rows (take c.loop-row.len c.loop-row.traces) u.0 start c.cleared_by_all-cleared.result c.loop-row.invariant.so_far refl traced c.cleared_by_all-cleared.ensures c.args.b.now.width each)

pub loop-row-preserved : goal.loop-row-preserved
loop-row-preserved c =
    let items = c.rows-row-items.result.now in
    let i = c.loop-row.row-index in
    let u = get_or items i record { 0 = 0 } in
    let vs = c.args.b.now.rows in
    let ts = take c.loop-row.len c.loop-row.traces in
    let left = c.cleared_by_all-cleared.result in
    let few = items_few (goal.at.loop-row-preserved c).After-rows-row-items in
    let start : Traced = record { source = u; image = c.reduce.result } in
    let traced : IsTraced vs start = record { differs = c.reduce.ensures.difference; clear = c.reduce.ensures.clear } in
    let next = numbers-take_more items i (omega arith) in
    elim c.if-cleared-eq0.branch [
      | then-cleared-eq0 w ↦
          let made = meet_inserted (numbers (take i items)) vs c.loop-row.common.rows ts u.0 start left c.loop-row.invariant.so_far refl traced c.cleared_by_all-cleared.ensures w.insert.new.self.rows w.if-cleared-eq0.true w.insert.ensures.span in
          record {
            width = ap (λ (s : Space). s.width) w.common-is ∙ w.insert.ensures.width ∙ c.loop-row.invariant.width;
            room = omega (arith, w.len-is, c.loop-row.invariant.room);
            so_far = rw (next, w.common-is, w.len-is, w.traces-is) made;
          }
      | else-cleared-eq0 w ↦
          let made = meet_traced (numbers (take i items)) vs c.loop-row.common.rows ts u.0 start left c.loop-row.invariant.so_far refl traced c.cleared_by_all-cleared.ensures w.if-cleared-eq0.false in
          let more = take_more_set c.loop-row.traces c.loop-row.len left (omega (arith, c.loop-row.invariant.room, c.reduce.array_long)) in
          record {
            width = ap (λ (s : Space). s.width) w.common-is ∙ c.loop-row.invariant.width;
            room = omega (arith, w.len-is, c.loop-row.invariant.room);
            so_far = rw (next, w.common-is, w.len-is, w.traces-is, more) made;
          }
    ]

common_is : (c : After-loop-row) → length c.rows-row-items.result.now ≤ c.loop-row.row-index → (x : ℕ) → in_span c.loop-row.common.rows x ≡ (in_span c.args.a.now.rows x && in_span c.args.b.now.rows x)
common_is c past x =
    let items = c.rows-row-items.result.now in
    let whole : numbers (take c.loop-row.row-index items) ≡ c.args.a.now.rows = ap (λ l. numbers l) (take_all c.loop-row.row-index items past) ∙ c.rows-row-items.ensures.rows in
    let reduced = subst (λ (s : Space). IsReduced s.rows) c.b.view_is c.b.invariant.reduced in
    let so_far = subst (λ l. MeetSoFar l c.args.b.now.rows c.loop-row.common.rows (take c.loop-row.len c.loop-row.traces)) whole c.loop-row.invariant.so_far in
    meet_all c.args.a.now.rows c.args.b.now.rows c.loop-row.common.rows _ reduced so_far x

pub returns-clause-span : goal.returns-clause-span
returns-clause-span c = common_is (goal.at.returns-clause-span c).After-loop-row c.loop-row-test.false

pub returns-clause-dimension : goal.returns-clause-dimension
returns-clause-dimension c =
    meet_dimension_of_common c.args.a.now.rows c.args.b.now.rows c.loop-row.common.rows (common_is (goal.at.returns-clause-dimension c).After-loop-row c.loop-row-test.false)
