use Rattle.kk_field.proofs.Residues.{field_product-below, field_product_assoc, field_product_comm, field_product-xor, one-field_product}
use Rattle.kk_field.proofs.laws.residues_are_a_ring.Goals as goal

pub returns : goal.returns
returns c = λ f h. record {
  closed = field_product-below f h.low_below;
  associative = field_product_assoc f h.low_below;
  commutative = field_product_comm f h.low_below;
  distributive = field_product-xor f h.low_below;
  one = one-field_product f h.low_below;
}
