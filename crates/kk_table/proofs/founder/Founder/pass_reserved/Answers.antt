use Rattle.std.proofs.Common.{◌∙◌, sym, ap, rules}
use Rattle.kk_table.specs.Founder.{FounderView}
use Rattle.kk_table.specs.Table.{TableView}
use Rattle.kk_table.proofs.founder.Founder.pass_reserved.Goals as goal

pub give-seat-requires-clause-table : goal.give-seat-requires-clause-table
give-seat-requires-clause-table c =
    let id = c.words.ensures.id in
    (ap (λ (f : FounderView). f.table.id) c.self.view_is ∙ ap (λ (t : TableView). t.id) c.requires.table ∙ sym id.0, rw id.0 id.1)

pub give-seat-requires-clause-founder : goal.give-seat-requires-clause-founder
give-seat-requires-clause-founder c = (_, _, _, search rules, c.self.invariant.knows)
