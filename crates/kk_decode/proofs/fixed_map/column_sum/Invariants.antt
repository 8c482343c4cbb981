use Rattle.std.proofs.Common.{◌≡◌, ◌+◌, ◌^◌, ◌<◌, ◌≤◌, slice_index}
use Rattle.kk_field.specs.Field.{field_product}
use Rattle.kk_linpoly.specs.LinPoly.{xor_sum}
use Rattle.kk_decode.specs.FixedMap.{element}
use Rattle.kk_decode.proofs.fixed_map.column_sum.Given as goal

abbrev pub invariant-loop-j : goal.invariant-loop-j
invariant-loop-j g l = record {
  sum_is : l.sum ≡ xor_sum (λ j. field_product l.field (element l.rows j l.c) (slice_index l.powers j)) l.j;
  below : l.sum < 2 ^ l.field.degree;
  counted : l.steps ≤ l.fn.steps + l.j;
}
