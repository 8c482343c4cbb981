use Rattle.std.proofs.Common.{◌≡◌, length}
use Rattle.kk_main.proofs.sockets.gates_at.Given as goal

abbrev pub invariant-loop-address : goal.invariant-loop-address
invariant-loop-address l = length l.gates.items ≡ l.address-index
