use Rattle.kk_linpoly.proofs.Trimmed.{trimmed-same, SamePolynomial-from_trimmed}
use Rattle.kk_linpoly.proofs.laws.one_trimmed_form.Goals as goal

pub returns : goal.returns
returns c = λ cs ds. (trimmed-same cs ds, SamePolynomial-from_trimmed cs ds)
