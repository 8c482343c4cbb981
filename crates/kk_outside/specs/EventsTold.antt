-- What the calls of a gate told: events, and so many times that they are over.
use Rattle.std.specs.Prelude.{ℕ, ◌+◌, List, length}
use Rattle.kk_outside.specs.declared.event.Event.{Event}

pub record EventsTold : Type 0 where
  pub events : List Event
  pub overs : ℕ

-- how many calls that are
abbrev pub calls_told : EventsTold → ℕ
calls_told told = length told.events + told.overs
