use Rattle.kk_test_algebra.proofs.linpoly.the_map_is_zero_on_the_roots.Given as goal

-- the ledger of the steps
abbrev pub ghosts-of_the_map : goal.ghosts-of_the_map
ghosts-of_the_map g a = record { name = a.blank.name; parts = a.blank.parts }
