use Rattle.kk_field.proofs.Elimination.{IsEchelon-zeros}
use Rattle.kk_field.proofs.echelon.Echelon.new.Goals as goal

pub invariant_of-result : goal.invariant_of-result
invariant_of-result c = record { echelon = IsEchelon-zeros 64 }
