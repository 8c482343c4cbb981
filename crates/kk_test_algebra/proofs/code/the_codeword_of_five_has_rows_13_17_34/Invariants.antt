use Rattle.kk_test_algebra.proofs.code.the_codeword_of_five_has_rows_13_17_34.Given as goal

abbrev pub ghosts-rows_of_symbol : goal.ghosts-rows_of_symbol
ghosts-rows_of_symbol g a = record { name = a.blank.name; parts = a.blank.parts }
