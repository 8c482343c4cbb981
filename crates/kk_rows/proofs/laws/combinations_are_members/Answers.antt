use Rattle.kk_rows.proofs.Combinations.{combinations_are_members}
use Rattle.kk_rows.proofs.laws.combinations_are_members.Goals as goal

pub returns : goal.returns
returns c = combinations_are_members
