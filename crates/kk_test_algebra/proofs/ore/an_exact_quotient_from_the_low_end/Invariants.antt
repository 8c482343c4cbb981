use Rattle.kk_test_algebra.proofs.ore.an_exact_quotient_from_the_low_end.Given as goal

-- the ledger of the steps
abbrev pub ghosts-exact : goal.ghosts-exact
ghosts-exact g a = record { name = a.blank.name; parts = a.blank.parts }
