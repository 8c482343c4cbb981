use Rattle.kk_test_algebra.proofs.degrees.the_highest_power_times_x_is_the_rest_of_the_modulus.Given as goal

-- the ledger of the steps
abbrev pub ghosts-product_and_power : goal.ghosts-product_and_power
ghosts-product_and_power g a = record { name = a.blank.name; parts = a.blank.parts }
