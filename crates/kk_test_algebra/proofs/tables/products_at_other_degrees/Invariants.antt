use Rattle.kk_test_algebra.proofs.tables.products_at_other_degrees.Given as goal

-- the ledger of the steps
abbrev pub ghosts-at_other_degrees : goal.ghosts-at_other_degrees
ghosts-at_other_degrees g a = record { name = a.blank.name; parts = a.blank.parts }
