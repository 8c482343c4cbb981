use Rattle.kk_outside.specs.Change.{change}
use Rattle.kk_report.specs.Command.{texts}
use Rattle.kk_order.specs.Order.{cause_of}
use Rattle.kk_run_send.proofs.Sends.{sends_refused}
use Rattle.kk_run_send.proofs.send.run_send.Goals as goal

pub returns-in-Err-clause-sends : goal.returns-in-Err-clause-sends
returns-in-Err-clause-sends g c =
    sends_refused (texts c.args.words.now) (cause_of c.in-Err.fault) c.refuse_words.result (g.S.Source.told c.args.source.now) (g.O.Outlet.told c.args.outlet.now) (change (g.P.Sink.told c.args.report.now) (g.P.Sink.told c.refuse_words.new.report))
    c.in-Err.ensures.refused c.refuse_words.ensures.status c.refuse_words.ensures.given

pub returns-in-Ok-clause-sends : goal.returns-in-Ok-clause-sends
returns-in-Ok-clause-sends g c = c.run.ensures.sends (texts c.args.words.now) c.in-Ok.ensures.asked
