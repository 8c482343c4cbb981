use Rattle.kk_code.proofs.Answers.{answer_ticket, answer_every, answer_refused, answer_fault}
use Rattle.kk_code.proofs.Outcomes.{answer_is}
use Rattle.kk_code.proofs.ticket.Ticket.read.Goals as goal

pub returns : goal.returns
returns c =
    let text = c.args.word.now in
    record {
      value = answer_is text c.answer.result c.answer.ensures;
      ticket = answer_ticket text c.answer.result c.answer.ensures;
      every = λ t good. answer_every text c.answer.result t c.answer.ensures good;
      refused = answer_refused text c.answer.result c.answer.ensures;
      fault = λ fault. answer_fault text c.answer.result fault c.answer.ensures;
    }
