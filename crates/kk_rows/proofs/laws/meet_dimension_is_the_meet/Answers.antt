use Rattle.kk_rows.proofs.Meets.{basis_of_meet}
use Rattle.kk_rows.proofs.laws.meet_dimension_is_the_meet.Goals as goal

pub returns : goal.returns
returns c = basis_of_meet
