use Rattle.std.proofs.Common.{◌∙◌, sym, ap}
use Rattle.kk_table.specs.Founder.{FounderView}
use Rattle.kk_table.specs.Table.{TableView}
use Rattle.kk_table.specs.Pass.{PassView}
use Rattle.kk_table.proofs.Seats.{after_join, founder_took}
use Rattle.kk_table.proofs.founder.Founder.take_back.Goals as goal

pub take-requires-clause-table : goal.take-requires-clause-table
take-requires-clause-table c =
    let id = c.words-words.ensures.id in (
      ap (λ (f : FounderView). f.table.id) c.self.view_is ∙ ap (λ (t : TableView). t.id) c.requires.table ∙ sym id.0,
      ap (λ (p : PassView). p.table.id) c.pass.view_is ∙ ap (λ (t : TableView). t.id) c.requires.pass ∙ sym id.0,
      rw id.0 id.1,
    )

pub take-requires-clause-founder : goal.take-requires-clause-founder
take-requires-clause-founder c = (_, _, _, c.self.invariant.knows)

pub take-requires-clause-pass : goal.take-requires-clause-pass
take-requires-clause-pass c = c.pass.invariant.knows

pub count-requires-clause-table : goal.count-requires-clause-table
count-requires-clause-table c =
    let id = c.words-words.ensures.id in
    (c.take.ensures.0 ∙ ap (λ (f : FounderView). f.table.id) c.self.view_is ∙ ap (λ (t : TableView). t.id) c.requires.table ∙ sym id.0, rw id.0 id.1)

pub count-requires-clause-founder : goal.count-requires-clause-founder
count-requires-clause-founder c = (_, _, _, after_join _ _ _ _ _ _ _ _ _ c.self.invariant c.pass.invariant.knows c.take.ensures.1)

pub invariant_of-self : goal.invariant_of-self
invariant_of-self c =
    founder_took _ _ _ _ _ _ _ _ _ c.self.invariant (after_join _ _ _ _ _ _ _ _ _ c.self.invariant c.pass.invariant.knows c.take.ensures.1) c.count.ensures.founder.1 c.count.ensures.counted
