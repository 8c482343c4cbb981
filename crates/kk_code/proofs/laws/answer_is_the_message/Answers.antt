use Rattle.kk_code.proofs.Enumeration.{answer_is_the_message}
use Rattle.kk_code.proofs.laws.answer_is_the_message.Goals as goal

pub returns : goal.returns
returns c = answer_is_the_message
