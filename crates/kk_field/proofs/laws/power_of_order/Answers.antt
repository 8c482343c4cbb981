use Rattle.kk_field.proofs.Powers.{power_of_order}
use Rattle.kk_field.proofs.laws.power_of_order.Goals as goal

pub returns : goal.returns
returns c = λ f h. power_of_order f h.modulus.low_below h.irreducible
