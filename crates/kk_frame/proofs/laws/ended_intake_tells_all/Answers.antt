use Rattle.kk_frame.proofs.Intakes.{ended_tells_all}
use Rattle.kk_frame.proofs.laws.ended_intake_tells_all.Goals as goal

pub returns : goal.returns
returns c = ended_tells_all
