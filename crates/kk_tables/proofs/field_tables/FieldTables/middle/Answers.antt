use Rattle.std.proofs.Common.{◌^◌, ◌≤◌, arith, ap, ◌∙◌}
use Rattle.std.proofs.Math.Pow.{pow_mono}
use Rattle.kk_field.specs.Field.{residue, field_product}
use Rattle.kk_tables.proofs.ByteImages.{product-fits}
use Rattle.kk_tables.proofs.field_tables.FieldTables.middle.Goals as goal

pub middle_product-requires-clause-a_below : goal.middle_product-requires-clause-a_below
middle_product-requires-clause-a_below c =
    let powers : 2 ^ c.args.self.now.degree ≤ 2 ^ 60 = pow_mono c.requires.at_most_60 in
    omega (arith, powers, c.requires.a_below)

pub middle_product-requires-clause-b_below : goal.middle_product-requires-clause-b_below
middle_product-requires-clause-b_below c =
    let powers : 2 ^ c.args.self.now.degree ≤ 2 ^ 60 = pow_mono c.requires.at_most_60 in
    omega (arith, powers, c.requires.b_below)

pub reduce_wide-requires : goal.reduce_wide-requires
reduce_wide-requires c =
    rw c.middle_product.ensures (product-fits c.args.a c.args.b c.args.self.now.degree 64 (omega (arith, c.requires.at_most_60)) c.requires.a_below c.requires.b_below)

pub returns-clause-value : goal.returns-clause-value
unfolding field_product
returns-clause-value c = c.reduce_wide.ensures.value ∙ ap (residue c.args.self.now) c.middle_product.ensures
