use Rattle.kk_linpoly.proofs.DegreeLaws.{degree-leads, leads_from_degree}
use Rattle.kk_linpoly.proofs.laws.degree_is_the_last.Goals as goal

pub returns : goal.returns
returns c = λ cs e. (leads_from_degree cs e, degree-leads cs e)
