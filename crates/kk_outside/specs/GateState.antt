-- What callers see of a gate in memory.
use Rattle.std.specs.Prelude.{ℕ, List, [], Some}
use Rattle.kk_outside.specs.declared.event.Event.{Event}
use Rattle.kk_outside.specs.Gate.{GateTold}

-- the events that are left, those that it told so far, how often it answered `Over`, and how often it failed
pub record GateState : Type 0 where
  pub left : List Event
  pub events : List Event
  pub overs : ℕ
  pub faults : ℕ

-- what it tells
abbrev pub told : GateState → GateTold
told s = record { left = Some s.left; events = s.events; overs = s.overs; faults = s.faults }

-- before any call
abbrev pub unasked : List Event → GateState
unasked events = record { left = events; events = []; overs = 0; faults = 0 }
