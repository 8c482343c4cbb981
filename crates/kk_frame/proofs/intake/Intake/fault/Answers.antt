use Rattle.std.proofs.Common.{refl, ◌∙◌}
use Rattle.std.proofs.lemmas.List.{append-nil}
use Rattle.kk_outside.specs.declared.event.Event.TheVariants.{Fault}
use Rattle.kk_frame.proofs.Intakes.{running_at, after_at, after_fault, taken-push}
use Rattle.kk_frame.proofs.intake.Intake.fault.Goals as goal

pub returns-clause-after : goal.returns-clause-after
returns-clause-after c = λ t events h.
    after_fault t events _ _ c.self.invariant (running_at _ _ c.self.view_is c.requires) (after_at t events _ _ c.self.view_is h) refl refl

pub returns-clause-taken : goal.returns-clause-taken
returns-clause-taken c = λ t events h. taken-push t events Fault c.args.self.now h c.requires ∙ append-nil _
