use Rattle.kk_field.proofs.Fields.{frobenius_injective}
use Rattle.kk_field.proofs.laws.frobenius_is_injective.Goals as goal

pub returns : goal.returns
returns c = λ f h. frobenius_injective f h.modulus.low_below h.irreducible
