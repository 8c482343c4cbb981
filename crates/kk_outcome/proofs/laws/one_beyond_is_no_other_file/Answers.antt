use Rattle.kk_outcome.proofs.OneBeyond.{one_beyond_is_no_other_file}
use Rattle.kk_outcome.proofs.laws.one_beyond_is_no_other_file.Goals as goal

pub returns : goal.returns
returns c = one_beyond_is_no_other_file
