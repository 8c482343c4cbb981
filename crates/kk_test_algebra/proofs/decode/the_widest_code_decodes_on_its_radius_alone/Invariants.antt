use Rattle.kk_test_algebra.proofs.decode.the_widest_code_decodes_on_its_radius_alone.Given as goal

-- the ledgers of the steps
abbrev pub ghosts-widest_answer : goal.ghosts-widest_answer
ghosts-widest_answer g a = record { name = a.blank.name; parts = a.blank.parts }
