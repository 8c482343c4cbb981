use Rattle.kk_code.proofs.Answers.{no_fault_of_ticket}
use Rattle.kk_code.proofs.laws.ticket_has_no_fault.Goals as goal

pub returns : goal.returns
returns c = no_fault_of_ticket
