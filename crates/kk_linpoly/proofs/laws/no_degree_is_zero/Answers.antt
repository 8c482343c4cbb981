use Rattle.kk_linpoly.proofs.DegreeLaws.{no_degree_is_zero}
use Rattle.kk_linpoly.proofs.laws.no_degree_is_zero.Goals as goal

pub returns : goal.returns
returns c = no_degree_is_zero
