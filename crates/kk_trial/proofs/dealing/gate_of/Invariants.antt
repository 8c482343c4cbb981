use Rattle.std.proofs.Common.{◌≡◌, take}
use Rattle.kk_frame.specs.FrameView.{pairs}
use Rattle.kk_trial.specs.Trial.{dealt, trial_events}
use Rattle.kk_trial.proofs.dealing.gate_of.Given as goal

abbrev pub invariant-loop-number : goal.invariant-loop-number
invariant-loop-number l = l.events.items ≡ trial_events l.ticket (dealt l.gates l.i (take l.number (pairs l.frames)))
