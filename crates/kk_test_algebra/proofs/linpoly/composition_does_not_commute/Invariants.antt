use Rattle.kk_test_algebra.proofs.linpoly.composition_does_not_commute.Given as goal

-- the ledger of the steps
abbrev pub ghosts-both_compositions : goal.ghosts-both_compositions
ghosts-both_compositions g a = record { name = a.blank.name; parts = a.blank.parts }
