use Rattle.kk_field.proofs.Powers.{frobenius-power}
use Rattle.kk_field.proofs.Residues.{one_small}
use Rattle.kk_field.proofs.laws.frobenius_is_a_power.Goals as goal

pub returns : goal.returns
returns c = λ f h. frobenius-power f h.low_below (one_small f.degree h.at_least_one)
