use Rattle.std.proofs.Common.{ap, ◌∙◌}
use Rattle.kk_machine.specs.declared.log.Log.{Log}
use Rattle.kk_machine.specs.Sights.{Seen}
use Rattle.kk_machine.proofs.Sights.{with_row-next}
use Rattle.kk_machine.proofs.sight.Sight.tell.Goals as goal

pub returns-then-word-ne0 : goal.returns-then-word-ne0
returns-then-word-ne0 c =
    c.add.ensures.added
    ∙ ap (λ (l : Log). let s : Seen = record { width = c.args.self.now.width; log = l } in s)
    (with_row-next c.args.self.now.width c.args.self.now.log c.args.word c.if-word-ne0.true c.if-word-eq-CLOSED.false c.requires)
