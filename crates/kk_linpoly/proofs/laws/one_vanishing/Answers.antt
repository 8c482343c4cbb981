use Rattle.kk_linpoly.proofs.Vanishings.{one_vanishing}
use Rattle.kk_linpoly.proofs.laws.one_vanishing.Goals as goal

pub returns : goal.returns
returns c = λ f h. one_vanishing f h.modulus.low_below h.irreducible
