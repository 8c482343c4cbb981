use Rattle.kk_code.proofs.Texts.{ticket_of_text}
use Rattle.kk_code.proofs.laws.ticket_has_one_text.Goals as goal

pub returns : goal.returns
returns c = ticket_of_text
