use Rattle.std.proofs.Common.{ap, sym, subst}
use Rattle.kk_code.specs.Ticket.{generations}
use Rattle.kk_frame.specs.Asking.{frames_of}
use Rattle.kk_workers.specs.WorkerLoop.{InsertsInOrder}
use Rattle.kk_workers.proofs.Bringing.{InsertsInOrder-nothing}
use Rattle.kk_workers.proofs.inserter.Inserter.insert_frames.Goals as goal

pub returns-in_default-clause-brings : goal.returns-in_default-clause-brings
returns-in_default-clause-brings c =
    let calls = c.args.self.now.pass.known.calls in
    let n = generations c.args.ticket.now in
    subst (InsertsInOrder n c.args.goal calls calls) (sym (ap frames_of c.in_default.is)) (InsertsInOrder-nothing n c.args.goal calls)
