-- What a call does to an object of the outside.

-- what an object tells before a call, or before several, and what it tells after them
pub record Change (Told : Type 0) : Type 0 where
  pub old : Told
  pub new : Told

-- the change from this to that
abbrev pub change : {Told : Type 0} → Told → Told → Change Told
change old new = record { old = old; new = new }
