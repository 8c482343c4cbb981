-- The worked remainder of specs/FieldExamples.antt as the remainder of a division.
use Rattle.std.proofs.Common.{bit_xor, sym, ap, arith}
use Rattle.kk_field.specs.Polynomial.{remainder, IsRemainder}
use Rattle.kk_field.specs.FieldExamples.{three_is_left, times_x}

pub worked_remainder : IsRemainder 3 11 21 (remainder 3 11 21)
worked_remainder = rw three_is_left (record {
  below = omega arith;
  quotient = (2, sym (ap (λ n. bit_xor n 3) times_x));
})
