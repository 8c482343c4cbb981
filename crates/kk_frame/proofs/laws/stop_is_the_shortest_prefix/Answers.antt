use Rattle.kk_frame.proofs.Stops.{stop_is_shortest}
use Rattle.kk_frame.proofs.laws.stop_is_the_shortest_prefix.Goals as goal

pub returns : goal.returns
returns c = stop_is_shortest
