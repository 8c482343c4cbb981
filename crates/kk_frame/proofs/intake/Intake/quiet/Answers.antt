use Rattle.std.proofs.Common.{refl, ◌∙◌}
use Rattle.std.proofs.lemmas.List.{append-nil}
use Rattle.kk_outside.specs.declared.event.Event.TheVariants.{Quiet}
use Rattle.kk_frame.proofs.Intakes.{running_at, after_at, after_idle, after_quiet, taken-push}
use Rattle.kk_frame.proofs.intake.Intake.quiet.Goals as goal

pub returns-then-self-clause-after : goal.returns-then-self-clause-after
returns-then-self-clause-after c = λ t events h.
    after_idle t events _ _ c.self.invariant (running_at _ _ c.self.view_is c.requires) (after_at t events _ _ c.self.view_is h) refl refl c.if-self.true refl

pub returns-else-self-clause-after : goal.returns-else-self-clause-after
returns-else-self-clause-after c = λ t events h.
    after_quiet t events _ _ c.self.invariant (running_at _ _ c.self.view_is c.requires) (after_at t events _ _ c.self.view_is h) refl refl c.if-self.false refl

pub returns-then-self-clause-taken : goal.returns-then-self-clause-taken
returns-then-self-clause-taken c = λ t events h. taken-push t events Quiet c.args.self.now h c.requires ∙ append-nil _

pub returns-else-self-clause-taken : goal.returns-else-self-clause-taken
returns-else-self-clause-taken c = λ t events h. taken-push t events Quiet c.args.self.now h c.requires ∙ append-nil _
