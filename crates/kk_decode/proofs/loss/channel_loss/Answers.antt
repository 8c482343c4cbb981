use Rattle.std.proofs.Common.{◌-◌, ◌*◌, ◌≤◌, refl, ap, ◌∙◌, arith}
use Rattle.std.proofs.lemmas.Nat.{mul-le}
use Rattle.kk_rows.specs.Rows.{numbers}
use Rattle.kk_rows.proofs.Dimensions.{dimension-same_span}
use Rattle.kk_rows.proofs.Distances.{meet_dimension-same_span}
use Rattle.kk_code.specs.Codeword.{codeword}
use Rattle.kk_decode.proofs.loss.channel_loss.Goals as goal

pub returns-clause-erased : goal.returns-clause-erased
returns-clause-erased g c =
    let v = codeword c.args.code.now c.args.u.now in
    c.loss_of.ensures.erased
    ∙ ap (λ n. c.args.code.now.l - n) (meet_dimension-same_span c.spanned-received.result.rows (numbers c.args.rows.now) v v c.spanned-received.ensures.span (λ x. refl))

pub returns-clause-injected : goal.returns-clause-injected
returns-clause-injected g c =
    let rows = numbers c.args.rows.now in
    let v = codeword c.args.code.now c.args.u.now in
    omega (
      arith,
      c.loss_of.ensures.injected,
      dimension-same_span c.spanned-received.result.rows rows c.spanned-received.ensures.span,
      meet_dimension-same_span c.spanned-received.result.rows rows v v c.spanned-received.ensures.span (λ x. refl),
    )

pub returns-clause-cost : goal.returns-clause-cost
returns-clause-cost g c =
    let p = c.args.code.now in
    let range = c.spanned-received.ensures.in_range in
    let points : p.l * (2 * p.k) ≤ p.field.degree * (2 * p.k) = mul-le p.l (2 * p.k) p.field.degree (2 * p.k) range.l_high (omega arith) in
    omega (arith, c.loss_of.ensures.cost, points)
