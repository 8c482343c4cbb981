use Rattle.std.proofs.Common.{[], ◌∷◌, sym, ap, subst, ◌∙◌}
use Rattle.kk_outside.specs.declared.event.Event.TheVariants.{Datagram}
use Rattle.kk_frame.specs.declared.frame.TheConstants.{FRAME_BYTES}
use Rattle.kk_frame.specs.Events.{counts}
use Rattle.kk_frame.specs.Intake.{IsAfter, is_running}
use Rattle.kk_test_motion.proofs.frame.counts_of.Goals as goal
use Rattle.kk_test_motion.proofs.frame.counts_of.Goals.{then-runs, else-runs}

pub returns : goal.returns
returns c =
    let t = c.args.ticket.now in
    let events = Datagram c.args.datagram.now ∷ [] in
    let after = c.datagram.ensures.after [] (c.new-intake.ensures.after t) in
    let limits = ap (λ l. counts FRAME_BYTES t l events) (c.datagram.ensures.limits ∙ c.new-intake.ensures.limits) in
    elim c.if-runs.branch [
      | then-runs w ↦ c.counts.ensures.counts ∙ ap (λ i. i.counts) w.intake-is ∙ w.over.ensures.counts t events after ∙ limits
      | else-runs w ↦
          c.counts.ensures.ended t events (subst (IsAfter t events) (sym w.intake-is) after)
          (ap is_running w.intake-is ∙ sym c.runs.ensures.running ∙ w.if-runs.false)
          ∙ ap (λ i. counts FRAME_BYTES t i.limits events) w.intake-is ∙ limits
    ]
