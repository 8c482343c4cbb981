use Rattle.kk_workers.proofs.decoding.decode_uncounted.Given as goal

abbrev pub ghosts-decode_named : goal.ghosts-decode_named
ghosts-decode_named a = record { name = a.blank.name; parts = a.blank.parts }
