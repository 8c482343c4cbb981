use Rattle.kk_test_algebra.proofs.linpoly.vanishing_polynomial_of_two_points.Given as goal

-- the ledger of the steps
abbrev pub ghosts-of_one_and_two : goal.ghosts-of_one_and_two
ghosts-of_one_and_two g a = record { name = a.blank.name; parts = a.blank.parts }
