use Rattle.std.proofs.Common.{◌≡◌, ◌+◌, ◌-◌, ◌^◌, ◌<◌, sym, subst, arith}
use Rattle.std.proofs.Math.Pow.{shr_lt}
use Rattle.kk_yard.proofs.draws.Draws.bits.Goals as goal

pub returns : goal.returns
returns c =
    let n = c.args.n in
    let all : n + (64 - n) ≡ 64 = omega (arith, c.requires.fits) in
    shr_lt n (64 - n) (subst (λ k. c.next.result < 2 ^ k) (sym all) c.next.type_inv)
