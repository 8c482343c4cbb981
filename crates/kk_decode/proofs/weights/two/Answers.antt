use Rattle.std.proofs.Common.{arith}
use Rattle.std.proofs.Math.Pow.{pow-lt}
use Rattle.kk_decode.proofs.weights.two.Goals as goal

pub returns-then-m-gt1 : goal.returns-then-m-gt1
returns-then-m-gt1 c = pow-lt {i = 1} (omega (arith, c.if-m-gt1.true, c.m.ensures.value))
