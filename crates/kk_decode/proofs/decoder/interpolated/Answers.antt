use Rattle.std.proofs.Common.{◌≡◌, ℕ, ◌+◌, ◌-◌, ◌*◌, ◌^◌, ◌<◌, ◌≤◌, List, ◌++◌, length, map, sym, ap, ◌∙◌, subst, arith}
use Rattle.std.specs.Prelude.{All}
use Rattle.std.proofs.lemmas.Bool.{both_ways}
use Rattle.std.proofs.lemmas.List.{length-map, take-map, drop-map}
use Rattle.std.proofs.lemmas.List.Elements.{All-take, All-drop}
use Rattle.kk_rows.specs.declared.rows.Row.{Row}
use Rattle.kk_rows.specs.Rows.{numbers}
use Rattle.kk_rows.specs.Span.{dimension}
use Rattle.kk_rows.specs.Distance.{distance}
use Rattle.kk_code.specs.Codeword.{codeword, width}
use Rattle.kk_code.specs.Decoding.{Decodes}
use Rattle.kk_code.proofs.Enumeration.{answer-of_message, answer-of_none}
use Rattle.kk_decode.specs.Solving.{point_of}
use Rattle.kk_decode.proofs.Messages.{some_is, none_is_no_some}
use Rattle.kk_decode.proofs.Rows.{count_rows, points_of_all}
use Rattle.kk_decode.proofs.Costs.{Sizes, points_cost, division_cost, values_cost}
use Rattle.kk_decode.proofs.decoder.interpolated.Given.{Over}
use Rattle.kk_decode.proofs.decoder.interpolated.Goals as goal
use Rattle.kk_decode.proofs.decoder.interpolated.Goals.{After-k-k, After-rows, After-give, After-decode_uninjected, After-give-2, After-candidate, After-from_residual, Else-is_within_radius}

-- ---- the rows as points

count : (g : Over) (c : After-rows g) → length c.rows.result.now ≡ dimension c.args.space.now.rows
count g c = count_rows c.rows.result.now c.args.space.now.rows c.rows.ensures.rows c.rows.ensures.reduced

below : (g : Over) (c : After-rows g) → All (λ r. r < 2 ^ width c.args.code.now) (numbers c.rows.result.now)
below g c =
    subst (λ n. All (λ r. r < 2 ^ n) (numbers c.rows.result.now)) c.requires.width
    (subst (All (λ r. r < 2 ^ c.args.space.now.width)) (sym c.rows.ensures.rows) c.rows.ensures.below)

pub split_at-requires : goal.split_at-requires
split_at-requires g c = omega (arith, count g c, c.requires.enough, c.k-k.ensures.symbols)

pub give-requires-clause-below : goal.give-requires-clause-below
give-requires-clause-below g c =
    let P : ℕ → Type 0 = λ r. r < 2 ^ width c.args.code.now in
    let items = c.rows.result.now in
    let here = below g (goal.at.give-requires-clause-below g c).After-rows in
    subst (λ l. All P (numbers l)) (sym c.split_at.ensures.front)
    (subst (All P) (take-map (λ (row : Row). row.0) c.k-k.result items) (All-take P c.k-k.result (numbers items) here))

pub give-requires-2-clause-below : goal.give-requires-2-clause-below
give-requires-2-clause-below g c =
    let P : ℕ → Type 0 = λ r. r < 2 ^ width c.args.code.now in
    let items = c.rows.result.now in
    let here = below g (goal.at.give-requires-2-clause-below g c).After-rows in
    subst (λ l. All P (numbers l)) (sym c.split_at.ensures.back)
    (subst (All P) (drop-map (λ (row : Row). row.0) c.k-k.result items) (All-drop P c.k-k.result (numbers items) here))

first_points : (g : Over) (c : After-give g) → length c.give.new.interp.points ≡ length c.split_at.result.0.now
first_points g c =
    let front = c.split_at.result.0.now in
    ap length (c.give.ensures.points ∙ ap (λ l. l ++ map (point_of c.args.code.now.field) (numbers front)) c.new-interp.ensures.no_points)
    ∙ length-map (numbers front) (point_of c.args.code.now.field) ∙ length-map front (λ (row : Row). row.0)

pub give-requires-2-clause-room : goal.give-requires-2-clause-room
give-requires-2-clause-room g c =
    let at = goal.at.give-requires-2-clause-room g c in
    let range = c.k-k.ensures.in_range in
    let k_is : c.give.new.interp.k ≡ c.k-k.result = c.give.ensures.k ∙ c.new-interp.ensures.k in
    omega (
      arith,
      first_points g at.After-give,
      c.split_at.ensures.front_len,
      c.split_at.ensures.back_len,
      count g at.After-rows,
      k_is,
      c.k-k.ensures.symbols,
      range.k_high,
      range.l_high,
      range.m_high,
      range.m_high,
      c.requires.few,
      c.requires.width,
      c.requires.enough,
      c.k-k.ensures.symbols,
    )

all_points : (g : Over) (c : After-give-2 g) → c.give-2.new.interp.points ≡ map (point_of c.args.code.now.field) c.args.space.now.rows
all_points g c =
    points_of_all c.args.code.now.field c.rows.result.now c.split_at.result.0.now c.split_at.result.1.now c.k-k.result
    c.new-interp.result.points c.give.new.interp.points c.give-2.new.interp.points c.new-interp.ensures.no_points
    c.split_at.ensures.front c.split_at.ensures.back c.give.ensures.points c.give-2.ensures.points
    ∙ ap (map (point_of c.args.code.now.field)) c.rows.ensures.rows

independent : (g : Over) (c : After-give-2 g) → length c.args.space.now.rows ≤ dimension c.args.space.now.rows
independent g c =
    let items = c.rows.result.now in
    let rows = c.args.space.now.rows in
    omega (arith, count_rows items rows c.rows.ensures.rows c.rows.ensures.reduced, sym (length-map items (λ (row : Row). row.0)) ∙ ap length c.rows.ensures.rows)

-- there are at most as many points as the rank
point_count : (g : Over) (c : After-give-2 g) → length c.give-2.new.interp.points ≤ dimension c.args.space.now.rows
point_count g c =
    let many = ap length (all_points g c) ∙ length-map c.args.space.now.rows (point_of c.args.code.now.field) in
    omega (arith, many, independent g c)

pub candidate-requires-clause-few : goal.candidate-requires-clause-few
candidate-requires-clause-few g c =
    let at = goal.at.candidate-requires-clause-few g c in
    let range = c.k-k.ensures.in_range in
    omega (arith, point_count g at.After-give-2, range.m_high, c.requires.few, c.requires.width, range.k_high, range.l_high, range.m_high)

-- ---- the answers

-- ---- the answers

pub returns-in-Some-clause-answer : goal.returns-in-Some-clause-answer
returns-in-Some-clause-answer g c =
    sym (answer-of_message c.args.code.now c.k-k.ensures.code c.args.space.now.rows c.in-Some.u c.in-Some.ensures.decodes)

-- where the points give no message, none decodes
no_candidate : (g : Over) (c : After-from_residual g) → c.give-2.new.interp.points ≡ map (point_of c.args.code.now.field) c.args.space.now.rows
    → length c.args.space.now.rows ≤ dimension c.args.space.now.rows → (u : List ℕ) → Decodes c.args.code.now c.args.space.now.rows u → ⊥
no_candidate g c points independent u d = none_is_no_some u (c.in_err-u.ensures.only c.args.space.now.rows u points independent d)

pub returns-in_err-u-clause-none : goal.returns-in_err-u-clause-none
returns-in_err-u-clause-none g c =
    rw c.from_residual.ensures (no_candidate g c (all_points g (goal.at.returns-in_err-u-clause-none g c).After-give-2) (independent g (goal.at.returns-in_err-u-clause-none g c).After-give-2))

pub returns-in_err-u-clause-answer : goal.returns-in_err-u-clause-answer
returns-in_err-u-clause-answer g c =
    c.from_residual.ensures
    ∙ sym (answer-of_none c.args.code.now c.args.space.now.rows (no_candidate g c (all_points g (goal.at.returns-in_err-u-clause-answer g c).After-give-2) (independent g (goal.at.returns-in_err-u-clause-answer g c).After-give-2)))

pub returns-then-is_within_radius-clause-answer : goal.returns-then-is_within_radius-clause-answer
returns-then-is_within_radius-clause-answer g c =
    let p = c.args.code.now in
    let rows = c.args.space.now.rows in
    sym (answer-of_message p c.k-k.ensures.code rows c.in_ok-u.u (record { message = c.in_ok-u.ensures.message; within = c.is_within_radius.ensures.within.0 c.if-is_within_radius.true }))

-- where the only message is too far, none decodes
far : (g : Over) (c : Else-is_within_radius g) → c.give-2.new.interp.points ≡ map (point_of c.args.code.now.field) c.args.space.now.rows
    → length c.args.space.now.rows ≤ dimension c.args.space.now.rows → (u : List ℕ) → Decodes c.args.code.now c.args.space.now.rows u → ⊥
far g c points independent u d =
    let p = c.args.code.now in
    let rows = c.args.space.now.rows in
    let same : c.in_ok-u.u ≡ u = some_is c.in_ok-u.u u (c.in_ok-u.ensures.only rows u points independent d) in
    let within = subst (λ v. distance (codeword p v) rows ≤ p.l - p.k) (sym same) d.within in
    both_ways _ c.if-is_within_radius.false (c.is_within_radius.ensures.within.1 within)

pub returns-else-is_within_radius-clause-none : goal.returns-else-is_within_radius-clause-none
returns-else-is_within_radius-clause-none g c = far g c (all_points g (goal.at.returns-else-is_within_radius-clause-none g c).After-give-2) (independent g (goal.at.returns-else-is_within_radius-clause-none g c).After-give-2)

pub returns-else-is_within_radius-clause-answer : goal.returns-else-is_within_radius-clause-answer
returns-else-is_within_radius-clause-answer g c =
    sym (answer-of_none c.args.code.now c.args.space.now.rows (far g c (all_points g (goal.at.returns-else-is_within_radius-clause-answer g c).After-give-2) (independent g (goal.at.returns-else-is_within_radius-clause-answer g c).After-give-2)))

-- ---- the steps

sizes : (g : Over) (c : After-k-k g) → Sizes (width c.args.code.now) c.k-k.result (dimension c.args.space.now.rows)
sizes g c =
    let range = c.k-k.ensures.in_range in
    record {
      three = omega (arith, range.m_low, range.l_low);
      symbols = omega (arith, c.k-k.ensures.symbols, range.k_high, range.l_high);
      rank = omega (arith, c.requires.few, c.k-k.ensures.symbols, range.l_high);
    }

first_cost : (g : Over) (c : After-give g) → Sizes (width c.args.code.now) c.k-k.result (dimension c.args.space.now.rows)
    → c.give.new.steps ≤ c.args.steps.now + 32 * (width c.args.code.now * width c.args.code.now)
first_cost g c size =
    let front = length c.split_at.result.0.now in
    let all = c.new-interp.result.k + length c.new-interp.result.points + front in
    let few : front ≤ width c.args.code.now = omega (arith, c.split_at.ensures.front_len, size.symbols) in
    let short : all ≤ width c.args.code.now = omega (arith, c.new-interp.ensures.k, ap length c.new-interp.ensures.no_points, c.split_at.ensures.front_len, size.symbols) in
    omega (arith, c.give.ensures.cost, points_cost (width c.args.code.now) front all few short)

uninjected_cost : (g : Over) (c : After-decode_uninjected g) → length c.give.new.interp.points ≡ length c.split_at.result.0.now
    → Sizes (width c.args.code.now) c.k-k.result (dimension c.args.space.now.rows)
    → c.decode_uninjected.new.steps ≤ c.give.new.steps + 5 * (width c.args.code.now * width c.args.code.now)
uninjected_cost g c points size =
    let p = c.args.code.now in
    let n = width p in
    let r = length c.give.new.interp.points in
    let field : p.field.degree ≤ n = omega arith in
    let short : p.k ≤ n = omega (arith, c.k-k.ensures.symbols, size.symbols) in
    let few : r ≤ n = omega (arith, points, c.split_at.ensures.front_len, size.symbols) in
    let rows : dimension c.args.space.now.rows ≤ n = omega (arith, size.rank) in
    omega (
      arith,
      c.decode_uninjected.ensures.cost,
      division_cost n p.field.degree p.k r field size.three short few,
      values_cost n (dimension c.args.space.now.rows) p.k rows (omega (arith, c.k-k.ensures.symbols, size.symbols)),
    )

others_cost : (g : Over) (c : After-give-2 g) → length c.give.new.interp.points ≡ length c.split_at.result.0.now → length c.rows.result.now ≡ dimension c.args.space.now.rows
    → Sizes (width c.args.code.now) c.k-k.result (dimension c.args.space.now.rows)
    → c.give-2.new.steps ≤ c.decode_uninjected.new.steps + 32 * (width c.args.code.now * width c.args.code.now)
others_cost g c points count size =
    let n = width c.args.code.now in
    let back = length c.split_at.result.1.now in
    let all = c.give.new.interp.k + length c.give.new.interp.points + back in
    let k_is : c.give.new.interp.k ≡ c.k-k.result = c.give.ensures.k ∙ c.new-interp.ensures.k in
    let few : back ≤ n = omega (arith, c.split_at.ensures.back_len, count, size.rank) in
    let short : all ≤ n = omega (arith, k_is, points, c.split_at.ensures.front_len, c.split_at.ensures.back_len, count, size.rank, c.requires.enough, c.k-k.ensures.symbols) in
    omega (arith, c.give-2.ensures.cost, points_cost n back all few short)

candidate_cost : (g : Over) (c : After-candidate g) → length c.give-2.new.interp.points ≤ dimension c.args.space.now.rows
    → Sizes (width c.args.code.now) c.k-k.result (dimension c.args.space.now.rows)
    → c.candidate.new.steps ≤ c.give-2.new.steps + 4 * (width c.args.code.now * width c.args.code.now)
candidate_cost g c points size =
    let p = c.args.code.now in
    let n = width p in
    let field : p.field.degree ≤ n = omega arith in
    let short : p.k ≤ n = omega (arith, c.k-k.ensures.symbols, size.symbols) in
    omega (arith, c.candidate.ensures.cost, division_cost n p.field.degree p.k (length c.give-2.new.interp.points) field size.three short (omega (arith, points, size.rank)))

pub returns-in-Some-clause-cost : goal.returns-in-Some-clause-cost
returns-in-Some-clause-cost g c =
    let at = goal.at.returns-in-Some-clause-cost g c in
    let n = width c.args.code.now in
    let size = sizes g at.After-k-k in
    omega (
      arith,
      first_cost g at.After-give size,
      uninjected_cost g at.After-decode_uninjected (first_points g at.After-give) size,
    )

pub returns-in_err-u-clause-cost : goal.returns-in_err-u-clause-cost
returns-in_err-u-clause-cost g c =
    let at = goal.at.returns-in_err-u-clause-cost g c in
    let n = width c.args.code.now in
    let size = sizes g at.After-k-k in
    let points = first_points g at.After-give in
    omega (
      arith,
      first_cost g at.After-give size,
      uninjected_cost g at.After-decode_uninjected points size,
      others_cost g at.After-give-2 points (count g at.After-rows) size,
      candidate_cost g at.After-candidate (point_count g at.After-give-2) size,
    )

pub returns-then-is_within_radius-clause-cost : goal.returns-then-is_within_radius-clause-cost
returns-then-is_within_radius-clause-cost g c =
    let at = goal.at.returns-then-is_within_radius-clause-cost g c in
    let n = width c.args.code.now in
    let size = sizes g at.After-k-k in
    let points = first_points g at.After-give in
    omega (
      arith,
      first_cost g at.After-give size,
      uninjected_cost g at.After-decode_uninjected points size,
      others_cost g at.After-give-2 points (count g at.After-rows) size,
      candidate_cost g at.After-candidate (point_count g at.After-give-2) size,
      c.is_within_radius.ensures.cost,
      values_cost n c.args.code.now.l c.args.code.now.k (omega arith) (omega (arith, c.k-k.ensures.symbols, size.symbols)),
    )

pub returns-else-is_within_radius-clause-cost : goal.returns-else-is_within_radius-clause-cost
returns-else-is_within_radius-clause-cost g c =
    let at = goal.at.returns-else-is_within_radius-clause-cost g c in
    let n = width c.args.code.now in
    let size = sizes g at.After-k-k in
    let points = first_points g at.After-give in
    omega (
      arith,
      first_cost g at.After-give size,
      uninjected_cost g at.After-decode_uninjected points size,
      others_cost g at.After-give-2 points (count g at.After-rows) size,
      candidate_cost g at.After-candidate (point_count g at.After-give-2) size,
      c.is_within_radius.ensures.cost,
      values_cost n c.args.code.now.l c.args.code.now.k (omega arith) (omega (arith, c.k-k.ensures.symbols, size.symbols)),
    )
