use Rattle.std.proofs.Common.{◌*◌}
use Rattle.kk_linpoly.specs.declared.comb.TheConstants.{BLOCK}
use Rattle.kk_linpoly.proofs.Combs.{AreImages}
use Rattle.kk_linpoly.proofs.matrix.transform.Given as goal

-- the columns of the blocks before block b
abbrev pub invariant-loop-b : goal.invariant-loop-b
invariant-loop-b l = AreImages l.field l.vector l.matrix l.fn.image l.image (BLOCK * l.b)
