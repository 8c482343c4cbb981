use Rattle.std.proofs.Common.{ℕ, ◌+◌, ◌*◌, ◌≤◌, List, sym, arith}
use Rattle.kk_code.specs.Codeword.{width}
use Rattle.kk_code.specs.Decoding.{Decodes}
use Rattle.kk_code.proofs.Enumeration.{answer-of_message, answer-of_none}
use Rattle.kk_decode.proofs.Members.{within_of_part}
use Rattle.kk_decode.proofs.Reach.{rank_in_reach}
use Rattle.kk_decode.proofs.Costs.{Sizes, map_fits, all_fits}
use Rattle.kk_decode.proofs.decoder.decode_space.Given.{Over}
use Rattle.kk_decode.proofs.decoder.decode_space.Goals as goal
use Rattle.kk_decode.proofs.decoder.decode_space.Goals.{After-renew, In-Some, Joined-then-rank-k, then-rank-k-via-then-rank-k, then-rank-k-via-else-rank-k+then-rank-l}

-- ---- ranks out of reach

out_of_reach : (g : Over) (c : Joined-then-rank-k g) → (u : List ℕ) → Decodes c.args.code.now c.args.space.now.rows u → ⊥
out_of_reach g c u d =
    let reach = rank_in_reach c.args.code.now c.k-k.ensures.code c.args.space.now.rows u d in
    elim c.then-rank-k.branch [
      | then-rank-k-via-then-rank-k w ↦ omega (arith, reach.0, w.if-rank-k.true, c.rank-rank.ensures.dimension, c.k-k.ensures.symbols)
      | then-rank-k-via-else-rank-k+then-rank-l w ↦ omega (arith, reach.1, w.if-rank-l.true, c.rank-rank.ensures.dimension, w.l.ensures.points, c.k-k.ensures.symbols)
    ]

pub returns-then-rank-k-clause-none : goal.returns-then-rank-k-clause-none
returns-then-rank-k-clause-none g c = out_of_reach g c

pub returns-then-rank-k-clause-answer : goal.returns-then-rank-k-clause-answer
returns-then-rank-k-clause-answer g c = sym (answer-of_none c.args.code.now c.args.space.now.rows (out_of_reach g c))

-- ---- the answers

-- rows that are all of one codeword decode to its message
whole_decodes : (g : Over) (c : In-Some g) → Decodes c.args.code.now c.args.space.now.rows c.in-Some.u
whole_decodes g c = record {
  message = c.in-Some.ensures.message;
  within = within_of_part c.args.code.now c.k-k.ensures.code c.args.space.now.rows c.in-Some.u (omega (arith, c.rank-rank.ensures.dimension, c.if-rank-k.false, c.k-k.ensures.symbols)) c.in-Some.ensures.rows;
}

pub returns-in-Some-clause-some : goal.returns-in-Some-clause-some
returns-in-Some-clause-some g c = whole_decodes g c

pub returns-in-Some-clause-answer : goal.returns-in-Some-clause-answer
returns-in-Some-clause-answer g c =
    sym (answer-of_message c.args.code.now c.k-k.ensures.code c.args.space.now.rows c.in-Some.u (whole_decodes g c))

-- ---- the steps

sizes : (g : Over) (c : After-renew g) → Sizes (width c.args.code.now) c.k-k.result c.rank-rank.result
sizes g c =
    let range = c.k-k.ensures.in_range in
    let most : c.rank-rank.result + c.k-k.result ≤ 2 * c.args.code.now.l = omega (arith, c.if-rank-l.false, c.l.ensures.points, c.k-k.ensures.symbols, range.k_high) in
    record {
      three = omega (arith, range.m_low, range.l_low);
      symbols = omega (arith, c.k-k.ensures.symbols, range.k_high, range.l_high);
      rank = omega (arith, most, range.l_high);
    }

renew_cost : (g : Over) (c : After-renew g) → Sizes (width c.args.code.now) c.k-k.result c.rank-rank.result
    → c.renew.new.steps ≤ c.args.steps.now + 6 * (width c.args.code.now * width c.args.code.now) + width c.args.code.now * (width c.args.code.now * width c.args.code.now)
renew_cost g c size =
    let p = c.args.code.now in
    omega (arith, c.renew.ensures.cost, map_fits (width p) p.l p.field.degree p.k (omega arith) (omega arith) size.three (omega (arith, c.k-k.ensures.symbols, size.symbols)))

pub returns-in-Some-clause-cost : goal.returns-in-Some-clause-cost
returns-in-Some-clause-cost g c =
    let at = goal.at.returns-in-Some-clause-cost g c in
    let n = width c.args.code.now in
    let size = sizes g at.After-renew in
    omega (arith, renew_cost g at.After-renew size, all_fits n (6 * (n * n) + n * (n * n)) size.three (omega arith))

pub interpolated-requires-clause-few : goal.interpolated-requires-clause-few
interpolated-requires-clause-few g c =
    omega (arith, c.rank-rank.ensures.dimension, c.if-rank-l.false, c.l.ensures.points, c.k-k.ensures.symbols, c.k-k.ensures.in_range.k_high)

pub returns-clause-cost : goal.returns-clause-cost
returns-clause-cost g c =
    let at = goal.at.returns-clause-cost g c in
    let n = width c.args.code.now in
    let size = sizes g at.After-renew in
    omega (arith, renew_cost g at.After-renew size, c.interpolated.ensures.cost, all_fits n (80 * (n * n) + n * (n * n)) size.three (omega arith))
