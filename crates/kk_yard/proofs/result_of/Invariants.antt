use Rattle.kk_yard.proofs.result_of.Given as goal

-- the ledger of the steps
abbrev pub ghosts-counted : goal.ghosts-counted
ghosts-counted a = record { name = a.blank.name; parts = a.blank.parts }
