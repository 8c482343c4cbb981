use Rattle.kk_code.proofs.encoder.Encoder.new.Given as goal

abbrev pub ghosts-tables_of : goal.ghosts-tables_of
ghosts-tables_of a = record { name = a.blank.name; parts = a.blank.parts }
