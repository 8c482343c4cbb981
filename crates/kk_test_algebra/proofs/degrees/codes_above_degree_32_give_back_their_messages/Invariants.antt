use Rattle.kk_test_algebra.proofs.degrees.codes_above_degree_32_give_back_their_messages.Given as goal

-- the ledger of the steps
abbrev pub ghosts-decodes_to : goal.ghosts-decodes_to
ghosts-decodes_to g a = record { name = a.blank.name; parts = a.blank.parts }
