use Rattle.kk_frame.proofs.Intakes.{running_goes_on}
use Rattle.kk_frame.proofs.laws.running_intake_goes_on.Goals as goal

pub returns : goal.returns
returns c = running_goes_on
