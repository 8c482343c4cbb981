use Rattle.std.proofs.Common.{◌≡◌, false, take}
use Rattle.kk_run_recv.specs.Receiver.{some_fault}
use Rattle.kk_run_recv.proofs.receiving.has_fault.Given as goal

abbrev pub invariant-loop-i : goal.invariant-loop-i
invariant-loop-i l = some_fault (take l.i l.received.gates) ≡ false
