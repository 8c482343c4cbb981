use Rattle.kk_field.proofs.Powers.{frobenius_of_degree}
use Rattle.kk_field.proofs.laws.frobenius_of_degree.Goals as goal

pub returns : goal.returns
returns c = λ f h. frobenius_of_degree f h.modulus.low_below h.irreducible
