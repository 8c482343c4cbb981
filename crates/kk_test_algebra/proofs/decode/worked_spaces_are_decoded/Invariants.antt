use Rattle.kk_test_algebra.proofs.decode.worked_spaces_are_decoded.Given as goal

-- the ledgers of the steps
abbrev pub ghosts-decodes_to : goal.ghosts-decodes_to
ghosts-decodes_to g a = record { name = a.blank.name; parts = a.blank.parts }

abbrev pub ghosts-loss_of : goal.ghosts-loss_of
ghosts-loss_of g a = record { name = a.blank.name; parts = a.blank.parts }
