use Rattle.kk_code.proofs.Outcomes.{outcome_of}
use Rattle.kk_code.proofs.laws.text_is_a_ticket_or_faulty.Goals as goal

pub returns : goal.returns
returns c = outcome_of
