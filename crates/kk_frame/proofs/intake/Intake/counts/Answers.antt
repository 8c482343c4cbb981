use Rattle.std.proofs.Common.{ap, ◌∙◌}
use Rattle.kk_frame.proofs.Intakes.{ended_tells}
use Rattle.kk_frame.proofs.intake.Intake.counts.Goals as goal

pub returns-clause-ended : goal.returns-clause-ended
returns-clause-ended c = λ t events h over. ap (λ s. s.counts) c.self.view_is ∙ ended_tells t events c.args.self.now h over
