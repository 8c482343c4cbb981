use Rattle.kk_outside.specs.Change.{change}
use Rattle.kk_report.specs.Command.{texts}
use Rattle.kk_order.specs.Order.{cause_of}
use Rattle.kk_run_pack.proofs.Packs.{packs_refused}
use Rattle.kk_run_pack.proofs.pack.run_pack.Goals as goal

pub returns-in-Err-clause-packs : goal.returns-in-Err-clause-packs
returns-in-Err-clause-packs g c =
    packs_refused (texts c.args.words.now) (cause_of c.in-Err.fault) c.refuse_words.result (g.S.Source.told c.args.source.now) (g.K.Sink.told c.args.file.now) (change (g.P.Sink.told c.args.report.now) (g.P.Sink.told c.refuse_words.new.report))
    c.in-Err.ensures.refused c.refuse_words.ensures.status c.refuse_words.ensures.given

pub returns-in-Ok-clause-packs : goal.returns-in-Ok-clause-packs
returns-in-Ok-clause-packs g c = c.run.ensures.packs (texts c.args.words.now) c.in-Ok.ensures.asked
