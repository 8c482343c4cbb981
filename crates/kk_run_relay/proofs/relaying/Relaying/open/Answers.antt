use Rattle.std.proofs.Common.{inr, codes, Some, sym, ◌∙◌}
use Rattle.kk_report.specs.Command.{texts}
use Rattle.kk_order.specs.Order.{cause_of}
use Rattle.kk_order.proofs.Orders.{number_is}
use Rattle.kk_run_relay.proofs.Promises.{goes_by, heard, refused_by, unheard}
use Rattle.kk_run_relay.proofs.relaying.Relaying.open.Goals as goal

pub returns-in-Err-clause-refused : goal.returns-in-Err-clause-refused
returns-in-Err-clause-refused c = refused_by (texts c.args.words.now) c.args.gates (cause_of c.in-Err.fault) c.in-Err.ensures.refused

pub returns-then-gates-eq0-clause-refused : goal.returns-then-gates-eq0-clause-refused
returns-then-gates-eq0-clause-refused c = inr (unheard (texts c.args.words.now) c.in-Ok.order c.args.gates c.in-Ok.ensures.ordered c.if-gates-eq0.true)

pub returns-clause-asked : goal.returns-clause-asked
returns-clause-asked c =
    let order = c.in-Ok.order in
    let rate = number_is order (codes "rate") c.number.result c.unwrap-2.result c.number.ensures c.unwrap-2.ensures in
    let idle = number_is order (codes "idle") c.number-2.result c.unwrap-3.result c.number-2.ensures c.unwrap-3.ensures in
    let most = number_is order (codes "most") c.number-3.result c.unwrap-4.result c.number-3.ensures c.unwrap-4.ensures in
    record {
      order = order;
      ordered = heard (texts c.args.words.now) order c.args.gates c.in-Ok.ensures.ordered c.if-gates-eq0.false;
      same = goes_by order c.ticket-2.result.now (Some c.unwrap.result) c.unwrap-2.result c.unwrap-3.result c.unwrap-4.result c.ticket-2.ensures (sym c.unwrap.ensures ∙ c.seed.ensures) rate idle most;
    }
