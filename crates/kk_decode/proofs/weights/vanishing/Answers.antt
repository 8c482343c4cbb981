use Rattle.std.proofs.Common.{replicate, arith}
use Rattle.kk_decode.proofs.Elements.{IsOver-zeros, IsOver-set}
use Rattle.kk_decode.proofs.weights.vanishing.Goals as goal

pub loop-node-init : goal.loop-node-init
loop-node-init g c =
    let m = c.args.field.now.degree in
    record { over = IsOver-set m (replicate 65 0) 0 c.one.result c.one.ensures.below (IsOver-zeros m 65); counted = omega arith }
