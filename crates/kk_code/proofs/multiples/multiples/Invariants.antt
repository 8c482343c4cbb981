use Rattle.std.proofs.Common.{◌≡◌, ◌^◌, ◌<◌}
use Rattle.kk_field.specs.Field.{field_product, power}
use Rattle.kk_code.specs.Encoder.{multiples}
use Rattle.kk_code.proofs.multiples.multiples.Given as goal

-- the product of x and the power i, and the products before it
abbrev pub invariant-loop-i : goal.invariant-loop-i
invariant-loop-i g l = record {
  product_is : l.product ≡ field_product l.field l.x (power l.field l.base l.i);
  below : l.product < 2 ^ l.field.degree;
  word_is : l.word ≡ multiples l.field l.base l.i l.x;
}
