use Rattle.kk_linpoly.proofs.Values.{value-sum_of, value-scaled, value-squared_up, value-xor, value-trimmed}
use Rattle.kk_linpoly.proofs.laws.values_are_linear.Goals as goal

pub returns : goal.returns
returns c = λ f h. record {
  sum = value-sum_of f h.low_below;
  multiple = value-scaled f h.low_below;
  square = value-squared_up f h.low_below;
  point = value-xor f h.low_below;
  without_zeros = value-trimmed f h.low_below;
}
