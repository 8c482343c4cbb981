use Rattle.kk_decode.proofs.fixed_map.tests.the_map_gives_back_five.Given as goal

-- the ledger of the steps
abbrev pub ghosts-mapped : goal.ghosts-mapped
ghosts-mapped g a = record { name = a.blank.name; parts = a.blank.parts }
