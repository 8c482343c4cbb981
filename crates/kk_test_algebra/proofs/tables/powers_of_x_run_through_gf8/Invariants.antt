use Rattle.kk_test_algebra.proofs.tables.powers_of_x_run_through_gf8.Given as goal

-- the ledger of the steps
abbrev pub ghosts-powers_of_x : goal.ghosts-powers_of_x
ghosts-powers_of_x g a = record { name = a.blank.name; parts = a.blank.parts }
