use Rattle.std.proofs.Common.{◌++◌, drop, replicate}
use Rattle.kk_linpoly.proofs.Stored.{IsStoredAs, stored_front, IsOver-trimmed, length-trimmed_of}
use Rattle.kk_linpoly.proofs.lin_poly.LinPoly.from_slice.Goals as goal
use Rattle.kk_linpoly.proofs.lin_poly.LinPoly.from_slice.Goals.{After-copy_from_slice}

stored : (c : After-copy_from_slice) → IsStoredAs c.trimmed_len-len.result (c.copy_from_slice.new.self ++ drop c.trimmed_len-len.result (replicate 128 0)) c.args.c.now
stored c =
    stored_front c.trimmed_len-len.result c.args.c.now c.copy_from_slice.new.self c.trimmed_len-len.ensures.within c.requires
    c.trimmed_len-len.ensures.front c.copy_from_slice.ensures.after

pub invariant_of-result : goal.invariant_of-result
invariant_of-result c = (stored (goal.at.invariant_of-result c).After-copy_from_slice).stored

pub returns-clause-value : goal.returns-clause-value
returns-clause-value c = (stored (goal.at.returns-clause-value c).After-copy_from_slice).value

pub returns-clause-of_field : goal.returns-clause-of_field
returns-clause-of_field c m over =
    IsOver-trimmed m _ c.args.c.now (stored (goal.at.returns-clause-of_field c).After-copy_from_slice).value over

pub returns-clause-len : goal.returns-clause-len
returns-clause-len c = length-trimmed_of _ c.args.c.now (stored (goal.at.returns-clause-len c).After-copy_from_slice).value
