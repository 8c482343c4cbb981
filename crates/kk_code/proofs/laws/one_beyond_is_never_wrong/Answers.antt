use Rattle.kk_code.proofs.Enumeration.{one_beyond_is_never_wrong}
use Rattle.kk_code.proofs.laws.one_beyond_is_never_wrong.Goals as goal

pub returns : goal.returns
returns c = one_beyond_is_never_wrong
