use Rattle.std.proofs.Common.{sym, subst}
use Rattle.kk_field.specs.Polynomial.{IsIrreducible}
use Rattle.kk_field.specs.Field.{polynomial}
use Rattle.kk_field.proofs.Irreducible.{seven}
use Rattle.kk_decode.proofs.scratch.Scratch.new.Goals as goal

pub of-requires : goal.of-requires
of-requires c = subst (λ f. IsIrreducible (polynomial f)) (sym c.new.ensures) seven
