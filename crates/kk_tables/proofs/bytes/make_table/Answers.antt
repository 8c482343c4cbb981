use Rattle.kk_tables.proofs.bytes.make_table.Goals as goal

pub returns-clause-value : goal.returns-clause-value
returns-clause-value c image additive doubles first = c.make_table_of.ensures.value image additive (c.units.ensures image doubles first)
