use Rattle.std.proofs.Common.{◌≡◌, ◌+◌, ◌-◌, arith}
use Rattle.std.proofs.lemmas.Bool.{le-leb, leb-true}
use Rattle.kk_rows.specs.Distance.{distance}
use Rattle.kk_code.specs.Codeword.{codeword}
use Rattle.kk_decode.proofs.Losses.{distance_is_the_loss}
use Rattle.kk_decode.proofs.distance.is_within_radius.Goals as goal

pub overflow_add-result : goal.overflow_add-result
overflow_add-result g c =
    let loss = c.loss_of-loss.ensures in
    let range = loss.in_range in
    omega (arith, loss.erased, loss.within, c.requires.width, range.l_high, range.m_high)

pub returns-clause-within : goal.returns-clause-within
returns-clause-within g c =
    let p = c.args.code.now in
    let rows = c.args.space.now.rows in
    let loss = c.loss_of-loss.ensures in
    let sum = c.loss_of-loss.result.erased + c.loss_of-loss.result.injected in
    let d : sum ≡ distance (codeword p c.args.u.now) rows = omega (arith, loss.erased, loss.injected, distance_is_the_loss p c.l.ensures.code rows c.args.u.now) in
    let radius : c.l.result - c.k.result ≡ p.l - p.k = omega (arith, c.l.ensures.points, c.k.ensures.symbols) in (
      λ h. let le = leb-true sum (c.l.result - c.k.result) h in omega (arith, le, d, radius),
      λ h. le-leb sum (c.l.result - c.k.result) (omega (arith, h, d, radius)),
    )
