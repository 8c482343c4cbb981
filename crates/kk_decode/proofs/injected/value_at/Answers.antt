use Rattle.std.proofs.Common.{◌^◌, ◌<◌, sym, ap, ◌∙◌, subst}
use Rattle.kk_linpoly.specs.LinPoly.{value}
use Rattle.kk_linpoly.proofs.Values.{value-zero}
use Rattle.kk_decode.proofs.injected.value_at.Goals as goal

pub returns-then-x-eq0-clause-value : goal.returns-then-x-eq0-clause-value
returns-then-x-eq0-clause-value g c =
    let f = c.args.tables.now in
    let low = subst (λ f. f.low < 2 ^ f.degree) c.ring-field.ensures.value c.ring-field.ensures.irreducible.modulus.low_below in
    sym (ap (value f c.args.f.now) c.if-x-eq0.true ∙ value-zero f low c.args.f.now)
