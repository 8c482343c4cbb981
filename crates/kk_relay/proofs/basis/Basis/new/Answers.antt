use Rattle.std.proofs.Common.{ℕ, List, sym, ap, subst, ◌∙◌}
use Rattle.kk_rows.specs.Span.{in_span}
use Rattle.kk_relay.specs.RelayState.{no_rows, IsBasis}
use Rattle.kk_relay.proofs.Bases.{IsBasis-none}
use Rattle.kk_relay.proofs.basis.Basis.new.Goals as goal

pub invariant_of-result : goal.invariant_of-result
invariant_of-result c = (
  subst (λ (l : List ℕ). IsBasis (record { width = c.new.result.width; rows = l })) (sym c.new-2.ensures)
      (subst (λ w. IsBasis (no_rows w)) (sym c.new.ensures.width) (IsBasis-none c.args.width c.requires.fits)),
  λ x. ap (λ l. in_span l x) (c.new.ensures.rows ∙ sym c.new-2.ensures),
)
