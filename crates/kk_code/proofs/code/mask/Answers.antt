use Rattle.std.proofs.Common.{◌-◌, ◌^◌, ap, ◌∙◌, arith}
use Rattle.std.proofs.lemmas.Nat.Bits.{ones_shr}
use Rattle.kk_code.proofs.code.mask.Goals as goal

pub returns : goal.returns
returns c =
    let m = c.args.m in ones_shr 64 (64 - m) (omega arith) ∙ ap (λ k. 2 ^ k - 1) (omega (arith, c.requires.fits))
