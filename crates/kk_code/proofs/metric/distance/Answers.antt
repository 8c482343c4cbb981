use Rattle.std.proofs.Common.{◌≡◌, ◌-◌, arith}
use Rattle.kk_rows.specs.Distance.{meet_dimension}
use Rattle.kk_rows.proofs.Meets.{dimension-le_sum_left, dimension-le_sum_right, sum_dimension-le}
use Rattle.kk_code.proofs.metric.distance.Goals as goal
use Rattle.kk_code.proofs.metric.distance.Goals.{After-rank-2}

pub overflow_sub-meet : goal.overflow_sub-meet
overflow_sub-meet c =
    let us = c.args.a.now.rows in
    let vs = c.args.b.now.rows in
    omega (arith, c.sum_dim-sum.ensures.dimension, c.rank-2.ensures.dimension, dimension-le_sum_right us vs)

pub overflow_sub-meet-2 : goal.overflow_sub-meet-2
overflow_sub-meet-2 c =
    let us = c.args.a.now.rows in
    let vs = c.args.b.now.rows in
    omega (arith, c.sum_dim-sum.ensures.dimension, c.rank.ensures.dimension, c.rank-2.ensures.dimension, sum_dimension-le us vs)

meet_is : (c : After-rank-2) → c.rank.result - (c.sum_dim-sum.result - c.rank-2.result) ≡ meet_dimension c.args.a.now.rows c.args.b.now.rows
meet_is c =
    let us = c.args.a.now.rows in
    let vs = c.args.b.now.rows in
    omega (arith, c.sum_dim-sum.ensures.dimension, c.rank.ensures.dimension, c.rank-2.ensures.dimension, sum_dimension-le us vs, dimension-le_sum_right us vs)

pub overflow_sub-result : goal.overflow_sub-result
overflow_sub-result c =
    let us = c.args.a.now.rows in
    let vs = c.args.b.now.rows in
    omega (arith, c.sum_dim-sum.ensures.dimension, c.rank.ensures.dimension, dimension-le_sum_left us vs)

pub returns : goal.returns
returns c = omega (arith, c.sum_dim-sum.ensures.dimension, meet_is (goal.at.returns c).After-rank-2)
