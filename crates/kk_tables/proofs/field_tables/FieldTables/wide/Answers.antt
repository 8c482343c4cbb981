use Rattle.std.proofs.Common.{◌≤◌, ap, subst, ◌∙◌}
use Rattle.kk_field.specs.Field.{residue, field_product}
use Rattle.kk_tables.proofs.ByteImages.{product-fits}
use Rattle.kk_tables.proofs.field_tables.FieldTables.wide.Goals as goal

pub reduce_wide-requires : goal.reduce_wide-requires
reduce_wide-requires c =
    rw c.wide_product.ensures (product-fits c.args.a c.args.b c.args.self.now.degree 64 (subst (λ f. f.degree ≤ 64) c.self.view_is c.self.invariant.0) c.requires.a_below c.requires.b_below)

pub returns-clause-value : goal.returns-clause-value
unfolding field_product
returns-clause-value c = c.reduce_wide.ensures.value ∙ ap (residue c.args.self.now) c.wide_product.ensures
