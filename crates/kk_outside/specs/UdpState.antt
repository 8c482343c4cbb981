-- What callers see of a gate and an outlet over a socket.
use Rattle.std.specs.Prelude.{ℕ, Bool, true, false, List, None}
use Rattle.std.specs.declared.io.ErrorKind.{ErrorKind}
use Rattle.std.specs.declared.io.ErrorKind.TheVariants.{WouldBlock, TimedOut, OutOfMemory}
use Rattle.kk_outside.specs.declared.event.Event.{Event}
use Rattle.kk_outside.specs.Gate.{GateTold}
use Rattle.kk_outside.specs.Outlet.{OutletTold, Send}

-- the events that the gate told so far, and how often it failed
pub record UdpGateState : Type 0 where
  pub events : List Event
  pub faults : ℕ

-- whether the outlet has a socket, its sends so far, and how often it failed
pub record UdpOutletState : Type 0 where
  pub has_socket : Bool
  pub sends : List Send
  pub faults : ℕ

-- what a gate over a socket tells
abbrev pub gate_told : UdpGateState → GateTold
gate_told s = record { left = None; events = s.events; overs = 0; faults = s.faults }

-- what an outlet over a socket tells
abbrev pub outlet_told : UdpOutletState → OutletTold
outlet_told s = record { sends = s.sends; faults = s.faults }

-- a receive brought no datagram, since none came in time
abbrev pub is_wait_end : ErrorKind → Bool
is_wait_end WouldBlock = true
is_wait_end TimedOut = true
is_wait_end _ = false

-- a send found no room at the moment
abbrev pub is_passing : ErrorKind → Bool
is_passing WouldBlock = true
is_passing OutOfMemory = true
is_passing _ = false
