use Rattle.kk_code.proofs.CodeLaws.{codewords_are_far_apart}
use Rattle.kk_code.proofs.laws.codewords_are_far_apart.Goals as goal

pub returns : goal.returns
returns c = codewords_are_far_apart
