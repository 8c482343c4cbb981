use Rattle.std.proofs.Common.{◌≡◌, ◌^◌, ◌<◌, refl, ap, sym, ◌∙◌, arith, subst}
use Rattle.std.proofs.Math.Numerals.{add-one}
use Rattle.std.proofs.lemmas.Bool.{eqb-true, eq-eqb}
use Rattle.kk_field.specs.Field.{residue, field_product, frobenius}
use Rattle.kk_field.specs.Laws.{IsModulus}
use Rattle.kk_field.proofs.Products.{one-product}
use Rattle.kk_field.proofs.Residues.{one_small}
use Rattle.kk_field.proofs.ring.Ring.frobenius_fixes_x.Goals as goal

pub doubled-x-requires : goal.doubled-x-requires
doubled-x-requires c =
    subst (λ f. 1 < 2 ^ f.degree) c.self.view_is (one_small c.self.inside.m c.self.invariant.0)

pub loop-init : goal.loop-init
unfolding frobenius
loop-init c = record { power_is = refl; power_below = c.doubled-x.ensures.below }

pub product-power-requires-clause-a_below : goal.product-power-requires-clause-a_below
product-power-requires-clause-a_below c = c.loop.invariant.power_below

pub product-power-requires-clause-b_below : goal.product-power-requires-clause-b_below
product-power-requires-clause-b_below c = c.loop.invariant.power_below

pub loop-preserved : goal.loop-preserved
unfolding frobenius
loop-preserved c = record {
  power_is =
      rw (add-one c.loop.counter)
      (c.product-power.ensures.value ∙ ap (λ x. field_product c.args.self.now x x) c.loop.invariant.power_is);
  power_below = c.product-power.ensures.below;
}

pub returns-clause-modulus : goal.returns-clause-modulus
returns-clause-modulus c =
    subst IsModulus c.self.view_is (record { at_least_one = c.self.invariant.0; low_below = c.self.invariant.2 })

pub returns-clause-fixed : goal.returns-clause-fixed
unfolding field_product
returns-clause-fixed c =
    let f = c.args.self.now in
    let x = c.doubled-x.result in
    let x_is : x ≡ residue f 2 = c.doubled-x.ensures.value ∙ ap (residue f) (one-product 2) in
    let degree : c.self.inside.m ≡ f.degree = ap (λ f. f.degree) c.self.view_is in
    let all : c.loop.counter ≡ f.degree = omega (arith, degree) in
    let power_is : c.loop.power ≡ frobenius f f.degree (residue f 2) =
    c.loop.invariant.power_is ∙ ap (λ i. frobenius f i x) all ∙ ap (frobenius f f.degree) x_is in
    (λ equal. sym power_is ∙ eqb-true c.loop.power x equal ∙ x_is, λ fixed. eq-eqb c.loop.power x (power_is ∙ fixed ∙ sym x_is))
