use Rattle.std.proofs.Common.{refl, sym, ap, ◌∙◌, arith}
use Rattle.std.specs.Prelude.{slice_index}
use Rattle.std.proofs.lemmas.List.{get_or_past}
use Rattle.std.proofs.Math.Numerals.{add-one}
use Rattle.kk_field.proofs.Residues.{zero-field_product}
use Rattle.kk_field.specs.Field.{field_product, frobenius}
use Rattle.kk_ore.proofs.Adds.{adds_none, adds_more, adds_all}
use Rattle.kk_ore.proofs.left.add_term.Goals as goal

pub loop-j-init : goal.loop-j-init
unfolding frobenius
loop-j-init g c = record {
  power_is = refl;
  power_below = c.requires.c_below;
  adds = adds_none c.args.remainder.now c.args.s _;
  counted = omega arith;
}

pub loop-j-preserved : goal.loop-j-preserved
unfolding frobenius
loop-j-preserved g c =
    let f = c.args.ring.now in
    let b = c.args.b.now in
    let j = c.loop-j.j in
    let inv = c.loop-j.invariant in
    record {
      power_is = c.square-power.ensures.value ∙ ap (λ x. field_product f x x) inv.power_is ∙ ap (λ k. frobenius f k c.args.c) (sym (add-one j));
      power_below = c.square-power.ensures.below;
      adds = adds_more c.args.remainder.now c.loop-j.remainder c.args.s j c.mul.result (λ j. field_product f (slice_index b j) (frobenius f j c.args.c))
          (omega (arith, c.told-remainder, c.loop-j-test.true, c.requires.fits)) inv.adds
          (c.mul.ensures.value ∙ ap (field_product f (slice_index b j)) inv.power_is);
      counted = omega (arith, inv.counted, c.mul.ensures.cost, c.square-power.ensures.cost);
    }

pub returns-clause-added : goal.returns-clause-added
returns-clause-added g c =
    let f = c.args.ring.now in
    let b = c.args.b.now in
    adds_all c.args.remainder.now c.loop-j.remainder c.args.s c.loop-j.j (λ j. field_product f (slice_index b j) (frobenius f j c.args.c)) c.loop-j.invariant.adds
    (λ k past. ap (λ x. field_product f x (frobenius f k c.args.c)) (get_or_past b k 0 (omega (arith, c.loop-j-test.false)))
    ∙ zero-field_product f c.requires.modulus.low_below (frobenius f k c.args.c))
