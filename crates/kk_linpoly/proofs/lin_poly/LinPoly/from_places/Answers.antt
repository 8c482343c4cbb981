use Rattle.std.proofs.Common.{arith}
use Rattle.kk_linpoly.proofs.Trimmed.{SamePolynomial-refl}
use Rattle.kk_linpoly.proofs.Stored.{IsStoredAs, stored_as}
use Rattle.kk_linpoly.proofs.lin_poly.LinPoly.from_places.Goals as goal
use Rattle.kk_linpoly.proofs.lin_poly.LinPoly.from_places.Goals.{After-trimmed_len-len}

stored : (c : After-trimmed_len-len) → IsStoredAs c.trimmed_len-len.result c.args.coefficients c.args.coefficients
stored c =
    let cs = c.args.coefficients in
    stored_as c.trimmed_len-len.result c.args.end cs cs (omega arith) c.requires.fits c.trimmed_len-len.ensures.within
    c.trimmed_len-len.ensures.front c.requires.ends (SamePolynomial-refl cs)

pub invariant_of-result : goal.invariant_of-result
invariant_of-result c = (stored (goal.at.invariant_of-result c).After-trimmed_len-len).stored

pub returns : goal.returns
returns c = (stored (goal.at.returns c).After-trimmed_len-len).value
