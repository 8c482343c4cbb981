use Rattle.kk_test_algebra.proofs.field.squares_at_both_ends_of_the_degrees.Given as goal

-- the ledger of the steps
abbrev pub ghosts-squares : goal.ghosts-squares
ghosts-squares g a = record { name = a.blank.name; parts = a.blank.parts }
