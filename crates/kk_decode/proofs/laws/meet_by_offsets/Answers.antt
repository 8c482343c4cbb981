use Rattle.kk_decode.proofs.Offsets.{meet_by_offsets}
use Rattle.kk_decode.proofs.laws.meet_by_offsets.Goals as goal

pub returns : goal.returns
returns c = meet_by_offsets
