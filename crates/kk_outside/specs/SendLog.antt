-- The sends that a log keeps.
use Rattle.std.specs.Prelude.{List, [], ◌∷◌, ◌++◌}
use Rattle.kk_outside.specs.Outlet.{Send, Sent, Failed}
use Rattle.kk_outside.specs.declared.send_log.LastSend.{LastSend}
use Rattle.kk_outside.specs.declared.send_log.LastSend.TheVariants.{NoSend, HasSent, HasFailed}

abbrev pub sends_of : LastSend → List Send
sends_of NoSend = []
sends_of (HasSent datagram before) = before.value ++ Sent datagram.value ∷ []
sends_of (HasFailed before) = before.value ++ Failed ∷ []
