use Rattle.std.proofs.Common.{not, sym, ap, ◌∙◌}
use Rattle.std.specs.Prelude.{is_none}
use Rattle.kk_workers.specs.Runs.{lists_in}
use Rattle.kk_workers.proofs.Closings.{Closes-more, Closes-skip}
use Rattle.kk_workers.proofs.closing.close_open.Goals as goal

pub returns-then-is_none-clause-closes : goal.returns-then-is_none-clause-closes
returns-then-is_none-clause-closes c = λ closes.
    let f = c.freeze.ensures in
    Closes-more (lists_in c.args.kept.now) c.args.generation c.args.pass.now.known c.freeze.new.pass.known c.freeze.result
    (ap is_none (sym c.kept_answer.ensures) ∙ ap not c.is_none.ensures ∙ ap (λ b. not (not b)) c.if-is_none.true) closes f.goes_on f.told f.call

pub returns-else-is_none-clause-closes : goal.returns-else-is_none-clause-closes
returns-else-is_none-clause-closes c = λ closes.
    Closes-skip (lists_in c.args.kept.now) c.args.generation c.args.pass.now.known
    (ap is_none (sym c.kept_answer.ensures) ∙ ap not c.is_none.ensures ∙ ap (λ b. not (not b)) c.if-is_none.false) closes
