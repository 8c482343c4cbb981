use Rattle.std.specs.Int.Bits.{xor_lt}
use Rattle.kk_interp.proofs.bi_poly.BiPoly.eval.Goals as goal

pub returns-clause-below : goal.returns-clause-below
returns-clause-below g c = xor_lt c.args.field.now.degree c.eval.result c.eval-2.result c.eval.ensures.below c.eval-2.ensures.below
