use Rattle.kk_test_algebra.proofs.linpoly.the_map_takes_all_bytes.Given as goal

-- the ledger of the steps
abbrev pub ghosts-of_the_identity : goal.ghosts-of_the_identity
ghosts-of_the_identity g a = record { name = a.blank.name; parts = a.blank.parts }
