use Rattle.kk_code.proofs.Answers.{one_fault}
use Rattle.kk_code.proofs.laws.text_has_one_fault.Goals as goal

pub returns : goal.returns
returns c = one_fault
