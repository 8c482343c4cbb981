use Rattle.kk_test_algebra.proofs.ore.a_monomial_by_the_square.Given as goal

-- the ledger of the steps
abbrev pub ghosts-both : goal.ghosts-both
ghosts-both g a = record { name = a.blank.name; parts = a.blank.parts }
