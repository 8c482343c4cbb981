use Rattle.std.proofs.Common.{◌≡◌, sym, ◌∙◌, subst}
use Rattle.kk_linpoly.specs.LinPoly.{trimmed}
use Rattle.kk_linpoly.proofs.Trimmed.{trimmed-trimmed}
use Rattle.kk_linpoly.proofs.lin_poly.LinPoly.coeffs.Goals as goal

pub returns-clause-no_zero_at_end : goal.returns-clause-no_zero_at_end
returns-clause-no_zero_at_end c =
    subst (λ l. trimmed l ≡ l) (sym c.self.invariant.front ∙ c.self.view_is)
    (trimmed-trimmed c.self.inside.coefficients)
