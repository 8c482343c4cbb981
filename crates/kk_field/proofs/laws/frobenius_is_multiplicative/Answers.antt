use Rattle.kk_field.proofs.Residues.{frobenius-field_product}
use Rattle.kk_field.proofs.laws.frobenius_is_multiplicative.Goals as goal

pub returns : goal.returns
returns c = λ f h. frobenius-field_product f h.low_below
