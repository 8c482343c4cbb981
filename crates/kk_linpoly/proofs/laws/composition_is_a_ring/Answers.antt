use Rattle.kk_field.proofs.Residues.{one_small}
use Rattle.kk_linpoly.proofs.Compositions.{composition_assoc, composition-sum_left, composition-sum_right, composition-one_left, composition-one_right, composition-square}
use Rattle.kk_linpoly.proofs.laws.composition_is_a_ring.Goals as goal

pub returns : goal.returns
returns c = λ f h. record {
  associative = composition_assoc f h.low_below;
  sum_on_the_left = composition-sum_left f h.low_below;
  sum_on_the_right = composition-sum_right f h.low_below;
  one_on_the_left = composition-one_left f h.low_below;
  one_on_the_right = composition-one_right f h.low_below (one_small f.degree h.at_least_one);
  square = composition-square f h.low_below;
}
