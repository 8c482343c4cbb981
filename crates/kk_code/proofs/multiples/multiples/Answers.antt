use Rattle.std.proofs.Common.{◌≡◌, ◌+◌, ◌*◌, ◌%◌, ◌^◌, ◌≤◌, bit_xor, sym, ap, ap₂, ◌∙◌}
use Rattle.kk_field.specs.Field.{field_product, power}
use Rattle.kk_field.proofs.Residues.{field_product-one, field_product_assoc}
use Rattle.kk_code.proofs.PackedMultiples.{multiples-none, multiples-more, shifted, power_none, power_more}
use Rattle.kk_code.proofs.multiples.multiples.Goals as goal

pub loop-i-init : goal.loop-i-init
loop-i-init g c =
    let f = c.args.field.now in
    let h = c.requires.modulus.low_below in
    record {
      product_is = sym (ap (field_product f c.args.x) (power_none f c.args.base) ∙ field_product-one f h c.args.x c.requires.x_below);
      below = c.requires.x_below;
      word_is = sym (multiples-none f h c.args.base c.args.x);
    }

pub loop-i-preserved : goal.loop-i-preserved
loop-i-preserved g c =
    let f = c.args.field.now in
    let h = c.requires.modulus.low_below in
    let b = c.args.base in
    let x = c.args.x in
    let i = c.loop-i.i in
    let inv = c.loop-i.invariant in
    let y = c.mul-product.result in
    let y_is : y ≡ field_product f x (power f b (i + 1)) =
    c.mul-product.ensures.value ∙ ap (λ z. field_product f z b) inv.product_is ∙ field_product_assoc f h x (power f b i) b
    ∙ ap (field_product f x) (sym (power_more f b i)) in
    let room : f.degree * c.args.n ≤ 64 = c.requires.room in
    let place : y * 2 ^ (c.m-m.result * i) % 2 ^ 64 ≡ y * 2 ^ (f.degree * i) =
    rw c.m-m.ensures.value (shifted f.degree i c.args.n y c.loop-i-test.true room c.mul-product.ensures.below) in
    record {
      product_is = y_is;
      below = c.mul-product.ensures.below;
      word_is = ap₂ bit_xor inv.word_is (place ∙ ap (λ z. z * 2 ^ (f.degree * i)) y_is) ∙ sym (multiples-more f h b i x);
    }
