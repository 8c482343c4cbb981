use Rattle.std.proofs.Common.{refl}
use Rattle.kk_report.specs.Command.{texts}
use Rattle.kk_order.specs.Order.{cause_of}
use Rattle.kk_run_recv.proofs.Recvs.{recv_refused, recv_received}
use Rattle.kk_run_recv.proofs.recv.run_recv.Goals as goal

pub returns-in-Err-clause-receives : goal.returns-in-Err-clause-receives
returns-in-Err-clause-receives g c =
    recv_refused (texts c.args.words.now) (cause_of c.in-Err.fault) _ _ _ _ c.refuse_words.result c.in-Err.ensures.refused c.refuse_words.ensures.status c.refuse_words.ensures.given

pub returns-in-Ok-clause-receives : goal.returns-in-Ok-clause-receives
returns-in-Ok-clause-receives g c =
    let order = c.in-Ok.receiving.order in
    recv_received (texts c.args.words.now) order order.ticket _ _ _ _ _ c.run.result c.in-Ok.ensures.ordered refl refl c.run.ensures.receiver

pub returns-in-Ok-clause-unasked : goal.returns-in-Ok-clause-unasked
returns-in-Ok-clause-unasked g c = λ refused. absurd (c.run.ensures.accepted refused)

pub returns-in-Ok-clause-none_left : goal.returns-in-Ok-clause-none_left
returns-in-Ok-clause-none_left g c = λ refused. absurd (c.run.ensures.accepted refused)
