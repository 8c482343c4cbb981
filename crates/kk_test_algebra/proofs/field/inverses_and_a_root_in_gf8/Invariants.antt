use Rattle.kk_test_algebra.proofs.field.inverses_and_a_root_in_gf8.Given as goal

-- the ledger of the steps
abbrev pub ghosts-gf8 : goal.ghosts-gf8
ghosts-gf8 g a = record { name = a.blank.name; parts = a.blank.parts }
