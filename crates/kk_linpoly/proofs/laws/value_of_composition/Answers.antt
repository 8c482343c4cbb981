use Rattle.kk_linpoly.proofs.Values.{value-composition}
use Rattle.kk_linpoly.proofs.laws.value_of_composition.Goals as goal

pub returns : goal.returns
returns c = λ f h. value-composition f h.low_below
