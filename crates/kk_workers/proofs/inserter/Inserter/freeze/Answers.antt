use Rattle.std.proofs.Common.{refl, ap, ◌∙◌, ◌<◌, subst}
use Rattle.kk_code.specs.Codeword.{Parameters}
use Rattle.kk_code.specs.Decoding.{answer}
use Rattle.kk_table.specs.declared.view.Shape.{Shape}
use Rattle.kk_table.specs.Rule.{sight}
use Rattle.kk_workers.proofs.Kept.{IsInserter-frozen, IsInserter-already}
use Rattle.kk_workers.proofs.inserter.Inserter.freeze.Goals as goal

pub returns-in-Frozen-clause-inserter : goal.returns-in-Frozen-clause-inserter
returns-in-Frozen-clause-inserter c =
    let known = c.freeze.new.pass.known in
    IsInserter-frozen c.args.ticket.now c.args.self.now _ c.args.self.now.pass.known.number c.args.generation c.in-Frozen.rank c.decode_seen-answer.result
    c.freeze.ensures.goes_on c.in-Frozen.ensures.call c.in-Frozen.ensures.told.0
    (subst (λ (s : Shape). c.args.generation < s.generations) c.requires.shape c.requires.generation)
    (c.decode_seen-answer.ensures ∙ ap (λ (p : Parameters). answer p (sight known c.args.generation).rows) c.code.ensures.code)
    refl refl c.requires.inserter

pub returns-in_default-clause-inserter : goal.returns-in_default-clause-inserter
returns-in_default-clause-inserter c =
    IsInserter-already c.args.ticket.now c.args.self.now _ c.args.self.now.pass.known.number c.args.generation c.freeze.ensures.goes_on c.in_default.ensures.call refl refl c.requires.inserter
