use Rattle.kk_test_algebra.proofs.linpoly.a_multiple_and_two_squares.Given as goal

-- the ledger of the steps
abbrev pub ghosts-multiple_and_squares : goal.ghosts-multiple_and_squares
ghosts-multiple_and_squares g a = record { name = a.blank.name; parts = a.blank.parts }
