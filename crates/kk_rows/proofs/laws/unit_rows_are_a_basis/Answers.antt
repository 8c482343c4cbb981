use Rattle.kk_rows.proofs.AdditiveMaps.{unit_rows_are_a_basis}
use Rattle.kk_rows.proofs.laws.unit_rows_are_a_basis.Goals as goal

pub returns : goal.returns
returns c = unit_rows_are_a_basis
