use Rattle.std.proofs.Common.{ap, ◌∙◌, arith}
use Rattle.std.specs.Prelude.{slice_index}
use Rattle.std.proofs.lemmas.List.{get_or_past}
use Rattle.kk_field.proofs.Residues.{frobenius-zero, field_product-zero}
use Rattle.kk_field.specs.Field.{field_product, frobenius}
use Rattle.kk_ore.proofs.Adds.{adds_none, adds_more, adds_all}
use Rattle.kk_ore.proofs.right.add_term.Goals as goal

pub loop-j-init : goal.loop-j-init
loop-j-init g c = record {
  adds = adds_none c.args.remainder.now c.args.s _;
  counted = omega arith;
}

pub loop-j-preserved : goal.loop-j-preserved
loop-j-preserved g c =
    let f = c.args.ring.now in
    let b = c.args.b.now in
    let j = c.loop-j.j in
    let inv = c.loop-j.invariant in
    record {
      adds = adds_more c.args.remainder.now c.loop-j.remainder c.args.s j c.mul.result (λ j. field_product f c.args.c (frobenius f c.args.s (slice_index b j)))
          (omega (arith, c.told-remainder, c.loop-j-test.true, c.requires.fits)) inv.adds
          (c.mul.ensures.value ∙ ap (field_product f c.args.c) c.pow2-power.ensures.value);
      counted = omega (arith, inv.counted, c.mul.ensures.cost, c.pow2-power.ensures.cost);
    }

pub returns-clause-added : goal.returns-clause-added
returns-clause-added g c =
    let f = c.args.ring.now in
    let b = c.args.b.now in
    adds_all c.args.remainder.now c.loop-j.remainder c.args.s c.loop-j.j (λ j. field_product f c.args.c (frobenius f c.args.s (slice_index b j))) c.loop-j.invariant.adds
    (λ k past. ap (λ x. field_product f c.args.c (frobenius f c.args.s x)) (get_or_past b k 0 (omega (arith, c.loop-j-test.false)))
    ∙ ap (field_product f c.args.c) (frobenius-zero f c.requires.modulus.low_below c.args.s) ∙ field_product-zero f c.requires.modulus.low_below c.args.c)
