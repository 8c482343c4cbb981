use Rattle.std.proofs.Common.{sym, ◌∙◌}
use Rattle.std.specs.Bool.{Decides}
use Rattle.std.proofs.lemmas.Bool.{false≢true}
use Rattle.std.proofs.lemmas.Bool.Decides.{same_from_decides}
use Rattle.kk_field.specs.Field.{polynomial}
use Rattle.kk_field.specs.Polynomial.{IsIrreducible}
use Rattle.kk_field.proofs.Criterion.{irreducible_from, fixes_x, only_trivial}
use Rattle.kk_field.proofs.Irreducible.{irreducible-Decides}
use Rattle.kk_field.proofs.ring.Ring.is_irreducible.Goals as goal

pub returns-then-frobenius_fixes_x : goal.returns-then-frobenius_fixes_x
returns-then-frobenius_fixes_x c =
    let f = c.args.self.now in
    let h = c.frobenius_fixes_x.ensures.modulus in
    let exact : Decides c.only_trivial_idempotents.result (IsIrreducible (polynomial f)) = (
      λ trivial. irreducible_from f h (c.frobenius_fixes_x.ensures.fixed.0 c.if-frobenius_fixes_x.true) (c.only_trivial_idempotents.ensures.0 trivial),
      λ irreducible. c.only_trivial_idempotents.ensures.1 (only_trivial f h irreducible),
    ) in
    record { exact = exact; value = same_from_decides c.only_trivial_idempotents.result _ exact (irreducible-Decides (polynomial f)) }

pub returns-else-frobenius_fixes_x : goal.returns-else-frobenius_fixes_x
returns-else-frobenius_fixes_x c =
    let f = c.args.self.now in
    let exact : Decides c.frobenius_fixes_x.result (IsIrreducible (polynomial f)) = (
      λ holds. absurd (false≢true (sym c.if-frobenius_fixes_x.false ∙ holds)),
      λ irreducible. c.frobenius_fixes_x.ensures.fixed.1 (fixes_x f c.frobenius_fixes_x.ensures.modulus irreducible),
    ) in
    record { exact = exact; value = same_from_decides c.frobenius_fixes_x.result _ exact (irreducible-Decides (polynomial f)) }
