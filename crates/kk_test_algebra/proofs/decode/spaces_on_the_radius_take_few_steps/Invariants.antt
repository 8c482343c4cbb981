use Rattle.kk_test_algebra.proofs.decode.spaces_on_the_radius_take_few_steps.Given as goal

-- the ledgers of the steps
abbrev pub ghosts-decodes_at_width : goal.ghosts-decodes_at_width
ghosts-decodes_at_width g a = record { name = a.blank.name; parts = a.blank.parts }
