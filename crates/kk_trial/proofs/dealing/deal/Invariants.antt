use Rattle.std.proofs.Common.{◌≡◌, map}
use Rattle.std.specs.List.{range_with_len}
use Rattle.kk_outside.specs.GateState.{unasked}
use Rattle.kk_frame.specs.FrameView.{pairs}
use Rattle.kk_trial.specs.Trial.{dealt, trial_events}
use Rattle.kk_trial.proofs.dealing.deal.Given as goal

abbrev pub invariant-loop-i : goal.invariant-loop-i
invariant-loop-i l = l.all.items ≡ map (λ i. unasked (trial_events l.ticket (dealt l.gates i (pairs l.frames)))) (range_with_len 0 l.i)
