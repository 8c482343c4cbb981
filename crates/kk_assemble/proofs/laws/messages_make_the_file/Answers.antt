use Rattle.kk_assemble.proofs.Cuts.{joined-cuts}
use Rattle.kk_assemble.proofs.laws.messages_make_the_file.Goals as goal

pub returns : goal.returns
returns c = joined-cuts
