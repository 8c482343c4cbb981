use Rattle.kk_code.proofs.Outcomes.{text_is_of_a_ticket}
use Rattle.kk_code.proofs.laws.text_is_of_a_ticket.Goals as goal

pub returns : goal.returns
returns c = text_is_of_a_ticket
