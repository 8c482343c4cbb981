use Rattle.kk_field.proofs.Residues.{frobenius-xor}
use Rattle.kk_field.proofs.laws.frobenius_is_additive.Goals as goal

pub returns : goal.returns
returns c = λ f h. frobenius-xor f h.low_below
