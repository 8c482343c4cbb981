-- What a fault of a relay says of itself.
use Rattle.std.specs.Prelude.{ℕ, List, codes}
use Rattle.kk_relay.specs.declared.relayed.RelayFault.{RelayFault}
use Rattle.kk_relay.specs.declared.relayed.RelayFault.TheVariants.{Gate, Outlet}

abbrev pub fault_text : RelayFault → List ℕ
fault_text Gate = codes "the gate failed"
fault_text Outlet = codes "the outlet failed"
