use Rattle.kk_test_algebra.proofs.degrees.products_and_powers_above_degree_32.Given as goal

-- the ledger of the steps
abbrev pub ghosts-product_and_power : goal.ghosts-product_and_power
ghosts-product_and_power g a = record { name = a.blank.name; parts = a.blank.parts }
