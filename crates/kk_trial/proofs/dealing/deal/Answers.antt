use Rattle.std.proofs.Common.{ℕ, List, [], ◌∷◌, ◌++◌, sym, ap, ◌∙◌, arith}
use Rattle.std.proofs.lemmas.List.FromFn.{map-range_with_len_more}
use Rattle.kk_outside.specs.GateState.{GateState, unasked}
use Rattle.kk_frame.specs.FrameView.{pairs}
use Rattle.kk_trial.specs.Trial.{dealt, trial_events}
use Rattle.kk_trial.proofs.dealing.deal.Goals as goal

pub loop-i-preserved : goal.loop-i-preserved
loop-i-preserved c =
    let i = c.loop-i.i in
    let gate : ℕ → GateState = λ k. unasked (trial_events c.args.ticket.now (dealt c.args.gates k (pairs c.args.frames.now))) in
    let so_far = c.loop-i.all.items in
    c.in_ok-push.ensures.items
    ∙ ap (λ (x : GateState). so_far ++ x ∷ []) c.in_ok-gate_of.ensures
    ∙ ap (λ (l : List GateState). l ++ gate i ∷ []) c.loop-i.invariant
    ∙ sym (map-range_with_len_more gate 0 i i (omega arith))
