use Rattle.std.proofs.Common.{◌≡◌, ◌^◌, ◌<◌, ◌-◌, ap, ◌∙◌, subst, sym, arith}
use Rattle.std.proofs.Math.Numerals.{add-one}
use Rattle.kk_field.specs.Field.{field_product, frobenius, power}
use Rattle.kk_field.specs.Laws.{IsInverse}
use Rattle.kk_field.proofs.Residues.{one_small, one-field_product, field_product_comm}
use Rattle.kk_field.proofs.Powers.{power-one, power_of_order, inverse_more}
use Rattle.kk_field.proofs.field.Field.inverse.Goals as goal

pub loop-init : goal.loop-init
unfolding frobenius
loop-init g c =
    let f = c.ring-ring.result in
    let is = c.ring-ring.ensures.irreducible in
    let one = one_small f.degree is.modulus.at_least_one in
    let below : c.args.a < 2 ^ f.degree = subst (λ f. c.args.a < 2 ^ f.degree) (sym c.ring-ring.ensures.value) c.requires in
    record {
      power_is = c.square-power.ensures.value;
      power_below = c.square-power.ensures.below;
      inverse_is = one-field_product f is.modulus.low_below c.args.a below ∙ sym (power-one f is.modulus.low_below one c.args.a below);
      inverse_below = one;
      counted = omega (arith, c.square-power.ensures.cost);
    }

pub loop-preserved : goal.loop-preserved
unfolding frobenius
loop-preserved g c =
    let f = c.ring-ring.result in
    let is = c.ring-ring.ensures.irreducible in
    let one = one_small f.degree is.modulus.at_least_one in
    let below : c.args.a < 2 ^ f.degree = subst (λ f. c.args.a < 2 ^ f.degree) (sym c.ring-ring.ensures.value) c.requires in
    let inv = c.loop.invariant in
    record {
      power_is = rw (add-one c.loop.counter) (c.square-power-in-loop.ensures.value ∙ ap (λ x. field_product f x x) inv.power_is);
      power_below = c.square-power-in-loop.ensures.below;
      inverse_is = ap (λ x. field_product f x c.args.a) c.mul-inverse.ensures.value
          ∙ inverse_more f is.modulus.low_below one c.args.a c.loop.counter c.loop.inverse c.loop.power below inv.inverse_is inv.power_is;
      inverse_below = c.mul-inverse.ensures.below;
      counted = omega (arith, inv.counted, c.square-power-in-loop.ensures.cost, c.mul-inverse.ensures.cost);
    }

pub returns-clause-inverse : goal.returns-clause-inverse
returns-clause-inverse g c =
    let f = c.ring-ring.result in
    let is = c.ring-ring.ensures.irreducible in
    let below : c.args.a < 2 ^ f.degree = subst (λ f. c.args.a < 2 ^ f.degree) (sym c.ring-ring.ensures.value) c.requires in
    let all : c.loop.counter ≡ f.degree = omega (arith, c.m-end.ensures.value, c.m-end.ensures.one_or_more) in
    subst (λ f. IsInverse f c.args.a c.loop.inverse) c.ring-ring.ensures.value
    (record {
      residue = c.loop.invariant.inverse_below;
      product_is_one =
          field_product_comm f is.modulus.low_below c.args.a c.loop.inverse
          ∙ c.loop.invariant.inverse_is
          ∙ ap (λ m. power f c.args.a (2 ^ m - 1)) all
          ∙ power_of_order f is.modulus.low_below is.irreducible c.args.a below (omega arith);
    })
