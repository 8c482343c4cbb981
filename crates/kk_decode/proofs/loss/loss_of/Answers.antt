use Rattle.std.proofs.Common.{arith}
use Rattle.kk_rows.proofs.Distances.{meet_dimension-le_left, meet_dimension-le_right}
use Rattle.kk_code.specs.Codeword.{codeword}
use Rattle.kk_code.proofs.Graphs.{dimension-codeword}
use Rattle.kk_decode.proofs.loss.loss_of.Goals as goal

pub overflow_sub-result-2 : goal.overflow_sub-result-2
overflow_sub-result-2 g c =
    let p = c.args.code.now in
    let rows = c.args.space.now.rows in
    let v = codeword p c.args.u.now in
    omega (
      arith,
      c.injected_by_offsets-injected.ensures.injected,
      c.rank.ensures.dimension,
      c.l.ensures.points,
      meet_dimension-le_left rows v,
      meet_dimension-le_right rows v,
      dimension-codeword p c.l.ensures.in_range.low c.args.u.now,
    )

pub returns-clause-erased : goal.returns-clause-erased
returns-clause-erased g c =
    let rows = c.args.space.now.rows in
    let v = codeword c.args.code.now c.args.u.now in
    omega (arith, c.injected_by_offsets-injected.ensures.injected, c.rank.ensures.dimension, c.l.ensures.points, meet_dimension-le_left rows v)
