use Rattle.kk_rows.proofs.Distances.{distance_is_a_metric}
use Rattle.kk_rows.proofs.laws.distance_is_a_metric.Goals as goal

pub returns : goal.returns
returns c = distance_is_a_metric
