use Rattle.kk_decode.proofs.fixed_map.tests.codes_have_maps.Given as goal

-- the ledger of the steps
abbrev pub ghosts-map_of : goal.ghosts-map_of
ghosts-map_of g a = record { name = a.blank.name; parts = a.blank.parts }
