use Rattle.kk_code.proofs.Texts.{text_of_ticket}
use Rattle.kk_code.proofs.laws.ticket_has_its_text.Goals as goal

pub returns : goal.returns
returns c = text_of_ticket
