use Rattle.std.proofs.Common.{sym, ◌∙◌}
use Rattle.kk_tables.specs.Tables.{reduction, squared}
use Rattle.kk_tables.proofs.ByteImages.{IsAdditive-reduction, IsAdditive-squared, DoublesBy-reduction, DoublesBy-squared, reduction-one, squared-one}
use Rattle.kk_tables.proofs.field_tables.FieldTables.new.Goals as goal

pub invariant_of-result : goal.invariant_of-result
invariant_of-result c =
    let f = c.ring-ring.result in
    let is = c.ring-ring.ensures.irreducible in
    let h = is.modulus.low_below in
    rw (c.m.ensures.value, c.low-2.ensures.value) (
      rw c.m.ensures.value at c.m.ensures.at_most_64,
      is,
      c.make_table.ensures.value (reduction f) (IsAdditive-reduction f h) (DoublesBy-reduction f h) (reduction-one f h ∙ sym c.low.ensures.value),
      c.make_table-2.ensures.value (squared f) (IsAdditive-squared f h) (DoublesBy-squared f h) (squared-one f h is.modulus.at_least_one),
    )
