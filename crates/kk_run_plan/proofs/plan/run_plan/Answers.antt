use Rattle.kk_outside.specs.Change.{change}
use Rattle.kk_report.specs.Command.{texts}
use Rattle.kk_order.specs.Order.{cause_of}
use Rattle.kk_run_plan.proofs.Plans.{plans_refused}
use Rattle.kk_run_plan.proofs.Asking.{was_accepted}
use Rattle.kk_run_plan.proofs.plan.run_plan.Goals as goal

pub returns-in-Err-clause-plans : goal.returns-in-Err-clause-plans
returns-in-Err-clause-plans g c =
    plans_refused (texts c.args.words.now) (cause_of c.in-Err.fault) c.refuse_words.result (g.S.Source.told c.args.source.now) (g.K.Sink.told c.args.file.now) (change (g.P.Sink.told c.args.report.now) (g.P.Sink.told c.refuse_words.new.report))
    c.in-Err.ensures.refused c.refuse_words.ensures.status c.refuse_words.ensures.given

pub returns-in-Ok-clause-plans : goal.returns-in-Ok-clause-plans
returns-in-Ok-clause-plans g c = c.run.ensures.plans (texts c.args.words.now) c.in-Ok.ensures.asked

pub returns-in-Ok-clause-unread : goal.returns-in-Ok-clause-unread
returns-in-Ok-clause-unread g c = λ why. absurd (was_accepted (texts c.args.words.now) c.in-Ok.planning c.run.result c.in-Ok.ensures.asked c.run.ensures.accepted why)
