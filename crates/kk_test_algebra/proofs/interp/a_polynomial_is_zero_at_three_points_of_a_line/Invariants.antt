use Rattle.kk_test_algebra.proofs.interp.a_polynomial_is_zero_at_three_points_of_a_line.Given as goal

-- the ledger of the steps
abbrev pub ghosts-through_three_points : goal.ghosts-through_three_points
ghosts-through_three_points g a = record { name = a.blank.name; parts = a.blank.parts }
