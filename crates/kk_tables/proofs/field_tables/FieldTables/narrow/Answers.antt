use Rattle.std.proofs.Common.{◌*◌, ◌^◌, ◌≤◌, arith, ap, ◌∙◌}
use Rattle.std.proofs.Math.Pow.{pow_mono}
use Rattle.kk_field.specs.Field.{residue, field_product}
use Rattle.kk_tables.proofs.ByteImages.{product-fits}
use Rattle.kk_tables.proofs.field_tables.FieldTables.narrow.Goals as goal

pub narrow_product-requires-clause-b_below : goal.narrow_product-requires-clause-b_below
narrow_product-requires-clause-b_below c =
    let enough : c.args.self.now.degree ≤ 4 * (2 * c.args.bytes) = omega (arith, c.requires.enough) in
    let powers : 2 ^ c.args.self.now.degree ≤ 2 ^ (4 * (2 * c.args.bytes)) = pow_mono enough in
    omega (arith, powers, c.requires.b_below)

pub reduced-requires-clause-p_below : goal.reduced-requires-clause-p_below
reduced-requires-clause-p_below c =
    rw c.narrow_product.ensures
    (product-fits c.args.a c.args.b c.args.self.now.degree (8 * c.args.bytes) c.requires.enough c.requires.a_below c.requires.b_below)

pub returns-clause-value : goal.returns-clause-value
unfolding field_product
returns-clause-value c = c.reduced.ensures.value ∙ ap (residue c.args.self.now) c.narrow_product.ensures
