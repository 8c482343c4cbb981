-- What callers see of an outlet in memory.
use Rattle.std.specs.Prelude.{◌⊎◌, ℕ, ◌+◌, ◌<◌, List, [], ◌∷◌, ◌++◌, length, sum_by, Contains}
use Rattle.kk_outside.specs.Causes.{one_more}
use Rattle.kk_outside.specs.Outlet.{OutletTold, Send, Sent, Failed, datagrams_sent}

-- It holds the datagrams of its sends, at most `room` bytes in all. The calls whose numbers are in `fails` fail.
pub record OutletState : Type 0 where
  pub sends : List Send
  pub room : ℕ
  pub fails : List ℕ
  pub calls : ℕ
  pub faults : ℕ

-- what it tells
abbrev pub told : OutletState → OutletTold
told s = record { sends = s.sends; faults = s.faults }

-- before any call
abbrev pub unsent : ℕ → List ℕ → OutletState
unsent room fails = record { sends = []; room = room; fails = fails; calls = 0; faults = 0 }

-- the bytes that it holds
abbrev pub bytes_held : OutletState → ℕ
bytes_held s = sum_by length (datagrams_sent s.sends)

-- a send of this datagram fails: it is one of those that are to fail, or the datagram doesn't fit
abbrev pub IsRefused : OutletState → List ℕ → Type 0
IsRefused s datagram = Contains s.fails s.calls ⊎ (s.room < bytes_held s + length datagram)

-- after a send of this datagram
abbrev pub after_send : OutletState → List ℕ → OutletState
after_send s datagram = record s { sends = s.sends ++ Sent datagram ∷ []; calls = one_more s.calls }

-- after a send that failed
abbrev pub after_failed_send : OutletState → OutletState
after_failed_send s = record s { sends = s.sends ++ Failed ∷ []; calls = one_more s.calls; faults = one_more s.faults }
