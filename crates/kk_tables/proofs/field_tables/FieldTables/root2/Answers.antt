use Rattle.std.proofs.Common.{◌≡◌, ◌-◌, ◌%◌, ap, ◌∙◌, subst}
use Rattle.kk_field.specs.Field.{frobenius}
use Rattle.kk_field.specs.Laws.{IsFieldModulus}
use Rattle.kk_field.proofs.Powers.{frobenius-rest}
use Rattle.kk_tables.proofs.field_tables.FieldTables.root2.Goals as goal

pub returns-clause-root : goal.returns-clause-root
returns-clause-root g c =
    let f = c.args.self.now in
    let i = c.args.i in
    let is : IsFieldModulus f = subst IsFieldModulus c.self.view_is c.self.invariant.1 in
    let degree : c.self.inside.m ≡ f.degree = ap (λ f. f.degree) c.self.view_is in
    ap (frobenius f i) (c.pow2.ensures.value ∙ ap (λ m. frobenius f ((m - i % m) % m) c.args.a) degree)
    ∙ frobenius-rest f is.modulus.low_below is.irreducible i c.args.a is.modulus.at_least_one c.requires
