use Rattle.std.proofs.Common.{◌≡◌, ◌-◌, ◌%◌, ◌^◌, ◌<◌, ap, ◌∙◌, subst, sym}
use Rattle.kk_field.specs.Field.{frobenius}
use Rattle.kk_field.proofs.Powers.{frobenius-rest}
use Rattle.kk_field.proofs.field.Field.root2.Goals as goal

pub returns-clause-root : goal.returns-clause-root
returns-clause-root g c =
    let f = c.ring-ring.result in
    let i = c.args.i in
    let a = c.args.a in
    let is = c.ring-ring.ensures.irreducible in
    let below : a < 2 ^ f.degree = subst (λ f. a < 2 ^ f.degree) (sym c.ring-ring.ensures.value) c.requires in
    subst (λ f. frobenius f i c.pow2.result ≡ a) c.ring-ring.ensures.value
    (ap (frobenius f i) (c.pow2.ensures.value ∙ ap (λ m. frobenius f ((m - i % m) % m) a) c.m-m.ensures.value)
    ∙ frobenius-rest f is.modulus.low_below is.irreducible i a is.modulus.at_least_one below)
