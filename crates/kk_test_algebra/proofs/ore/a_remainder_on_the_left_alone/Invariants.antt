use Rattle.kk_test_algebra.proofs.ore.a_remainder_on_the_left_alone.Given as goal

-- the ledger of the steps
abbrev pub ghosts-both : goal.ghosts-both
ghosts-both g a = record { name = a.blank.name; parts = a.blank.parts }
