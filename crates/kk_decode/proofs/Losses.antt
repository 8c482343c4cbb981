-- What a loss is to the distance.
use Rattle.std.proofs.Common.{◌++◌, arith}
use Rattle.kk_rows.proofs.Spans.{in_span-within, in_span-append_within}
use Rattle.kk_rows.proofs.Dimensions.{dimension-le_within}
use Rattle.kk_rows.proofs.Meets.{dimension-le_sum_left, sum_dimension-le}
use Rattle.kk_rows.proofs.Distances.{distance_by_meet, distance_by_sum, meet_dimension-le_left, meet_dimension-le_right, meet_dimension_comm, sum_dimension_comm}
use Rattle.kk_code.specs.Codeword.{codeword}
use Rattle.kk_code.proofs.Graphs.{dimension-codeword}
use Rattle.kk_decode.specs.Laws.{DistanceIsTheLoss, PartIsWithinTheRadius}

pub distance_is_the_loss : DistanceIsTheLoss
distance_is_the_loss p code rows u =
    let h = code.field.modulus.low_below in
    let c = codeword p u in
    omega (arith, distance_by_meet c rows, meet_dimension_comm c rows, meet_dimension-le_left rows c, meet_dimension-le_right rows c, dimension-codeword p h u)

pub part_is_within_the_radius : PartIsWithinTheRadius
part_is_within_the_radius p code part rows u t within few many =
    let h = code.field.modulus.low_below in
    let c = codeword p u in
    let sums = dimension-le_within (c ++ part) (c ++ rows) (in_span-append_within c c part rows (λ x k. k) (in_span-within part rows within)) in
    omega (arith, sums, few, many, distance_by_sum c part, dimension-codeword p h u, sum_dimension_comm c rows, dimension-le_sum_left rows c, sum_dimension-le rows c, code.k_high)
