use Rattle.std.proofs.Common.{sym, ◌∙◌}
use Rattle.kk_decode.proofs.Messages.{no_quotient}
use Rattle.kk_decode.proofs.divide.quotient.Goals as goal

pub returns-then-lowest-eq0-clause-only : goal.returns-then-lowest-eq0-clause-only
returns-then-lowest-eq0-clause-only g c u over few solves =
    absurd (no_quotient c.args.field.now c.requires.field.modulus.low_below c.args.q.now u c.requires.starts (sym c.lowest.ensures ∙ c.if-lowest-eq0.true) solves)
