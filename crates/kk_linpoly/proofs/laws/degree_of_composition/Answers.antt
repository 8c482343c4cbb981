use Rattle.kk_linpoly.proofs.DegreeLaws.{degree-composition}
use Rattle.kk_linpoly.proofs.laws.degree_of_composition.Goals as goal

pub returns : goal.returns
returns c = λ f h. degree-composition f h.modulus.low_below h.irreducible
