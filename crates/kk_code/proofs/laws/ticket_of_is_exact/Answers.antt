use Rattle.kk_code.proofs.Outcomes.{ticket_of_is_exact}
use Rattle.kk_code.proofs.laws.ticket_of_is_exact.Goals as goal

pub returns : goal.returns
returns c = ticket_of_is_exact
