use Rattle.kk_test_motion.proofs.channel.the_message_is_decoded_on_the_radius.Given as goal

abbrev pub ghosts-decoded : goal.ghosts-decoded
ghosts-decoded g a = record { name = a.blank.name; parts = a.blank.parts }
