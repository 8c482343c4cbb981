use Rattle.std.proofs.Common.{Some, length, take, sym, ap, ◌∙◌, subst, arith}
use Rattle.kk_linpoly.specs.LinPoly.{IsOver}
use Rattle.kk_decode.proofs.Messages.{message_is, padded_is_message, too_long}
use Rattle.kk_decode.proofs.divide.message_of.Goals as goal

pub returns-then-coefficients-k-clause-only : goal.returns-then-coefficients-k-clause-only
returns-then-coefficients-k-clause-only c u message e =
    let p = c.args.code.now in
    absurd (too_long p.k c.args.g.now u (omega (arith, c.if-coefficients-k.true, c.k-k.ensures.symbols, ap length c.coeffs-coefficients.ensures.value)) message.len e)

pub returns-clause-message : goal.returns-clause-message
returns-clause-message c =
    let p = c.args.code.now in
    let k = c.k-k.result in
    let range = c.k-k.ensures.in_range in
    padded_is_message k c.coeffs-coefficients.result.now c.from_slice.result c.if-coefficients-k.false
    (omega (arith, c.k-k.ensures.symbols, range.k_high, range.l_high, range.m_high))
    (c.from_slice.ensures ∙ ap (take k) c.padded.ensures) p c.k-k.ensures.symbols
    (subst (IsOver p.field.degree) (sym c.coeffs-coefficients.ensures.value) c.requires)

pub returns-clause-only : goal.returns-clause-only
returns-clause-only c u message e =
    let k = c.k-k.result in
    let range = c.k-k.ensures.in_range in
    ap Some
    (message_is k c.coeffs-coefficients.result.now c.from_slice.result c.if-coefficients-k.false
    (omega (arith, c.k-k.ensures.symbols, range.k_high, range.l_high, range.m_high))
    (c.from_slice.ensures ∙ ap (take k) c.padded.ensures) u (message.len ∙ sym c.k-k.ensures.symbols) (c.coeffs-coefficients.ensures.value ∙ e))
