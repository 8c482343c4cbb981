use Rattle.std.proofs.Common.{refl, sym, ◌∙◌, ◌<◌, subst}
use Rattle.kk_code.specs.Ticket.{generations}
use Rattle.kk_table.specs.declared.view.Shape.{Shape}
use Rattle.kk_workers.proofs.Bringing.{InsertsInOrder-insert, InsertsInOrder-freeze}
use Rattle.kk_workers.proofs.Kept.{IsInserter-insert}
use Rattle.kk_workers.proofs.inserter.Inserter.insert.Goals as goal

pub freeze-requires-clause-inserter : goal.freeze-requires-clause-inserter
freeze-requires-clause-inserter c =
    IsInserter-insert c.args.ticket.now c.args.self.now _ c.args.self.now.pass.known.number c.args.generation c.args.row c.insert-answer.result
    c.insert-answer.ensures.goes_on c.insert-answer.ensures.call c.count.ensures.counted c.count.ensures.within refl c.requires.inserter

pub returns-then-reaches-clause-brings : goal.returns-then-reaches-clause-brings
returns-then-reaches-clause-brings c =
    let freezes = c.freeze.ensures.freezes in
    InsertsInOrder-freeze (generations c.args.ticket.now) c.args.goal c.args.self.now.pass.known.calls c.insert-answer.new.pass.known.calls c.freeze.new.self.pass.known.calls
    c.args.self.now.pass.known.number c.insert-answer.new.pass.known.number c.args.generation c.args.row c.insert-answer.result freezes.reply
    (subst (λ (s : Shape). c.args.generation < s.generations) c.requires.shape c.requires.generation)
    (sym c.reaches.ensures ∙ c.if-reaches.true) c.insert-answer.ensures.call freezes.call

pub returns-else-reaches-clause-brings : goal.returns-else-reaches-clause-brings
returns-else-reaches-clause-brings c =
    InsertsInOrder-insert (generations c.args.ticket.now) c.args.goal c.args.self.now.pass.known.calls c.insert-answer.new.pass.known.calls
    c.args.self.now.pass.known.number c.args.generation c.args.row c.insert-answer.result
    (subst (λ (s : Shape). c.args.generation < s.generations) c.requires.shape c.requires.generation)
    (sym c.reaches.ensures ∙ c.if-reaches.false) c.insert-answer.ensures.call

pub returns-else-reaches-clause-inserter : goal.returns-else-reaches-clause-inserter
returns-else-reaches-clause-inserter c =
    IsInserter-insert c.args.ticket.now c.args.self.now _ c.args.self.now.pass.known.number c.args.generation c.args.row c.insert-answer.result
    c.insert-answer.ensures.goes_on c.insert-answer.ensures.call c.count.ensures.counted c.count.ensures.within refl c.requires.inserter
