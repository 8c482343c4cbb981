use Rattle.kk_linpoly.proofs.Roots.{few_roots}
use Rattle.kk_linpoly.proofs.laws.few_roots.Goals as goal

pub returns : goal.returns
returns c = λ f h. few_roots f h.modulus.low_below h.irreducible
