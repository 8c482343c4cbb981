use Rattle.kk_test_motion.proofs.channel.so_many_dimensions_are_erased_and_injected.Given as goal

abbrev pub ghosts-passed : goal.ghosts-passed
ghosts-passed g a = record { name = a.blank.name; parts = a.blank.parts }
