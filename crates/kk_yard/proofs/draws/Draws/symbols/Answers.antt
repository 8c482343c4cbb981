use Rattle.std.proofs.Common.{◌^◌, ◌<◌, ℕ}
use Rattle.std.proofs.Math.Pow.{pow_pos}
use Rattle.std.proofs.lemmas.List.Elements.{All-set, All-replicate}
use Rattle.kk_yard.proofs.draws.Draws.symbols.Goals as goal

pub loop-i-init : goal.loop-i-init
loop-i-init c = All-replicate (λ (c : ℕ). c < 2 ^ 31) 16 0 (pow_pos 31)

pub loop-i-preserved : goal.loop-i-preserved
loop-i-preserved c = All-set (λ (c : ℕ). c < 2 ^ 31) c.loop-i.symbols c.loop-i.i c.bits.result c.bits.ensures c.loop-i.invariant
