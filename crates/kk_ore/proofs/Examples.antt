-- The worked values of specs/DivisionExamples.antt as quotients and remainders.
use Rattle.std.proofs.Common.{◌≡◌, ℕ, zero, suc, ◌<◌, List, [], ◌∷◌, Some, sym, ◌∙◌, arith}
use Rattle.kk_field.specs.FieldExamples.{gf8}
use Rattle.kk_linpoly.proofs.Trimmed.{SamePolynomial-from}
use Rattle.kk_ore.specs.Division.{IsBelow, IsLeftQuotient, IsRightQuotient}
use Rattle.kk_ore.specs.DivisionExamples.{left_by_square, right_by_square, left_with_remainder, right_without_remainder, degree_of_divisor, degree_of_remainder, degree_of_no_remainder}

zero_below : (b : List ℕ) → IsBelow [] b
zero_below b = record { smaller = λ d e. absurd (cc degree_of_no_remainder) }

constant_below : IsBelow (2 ∷ []) (1 ∷ 1 ∷ [])
constant_below = record { smaller = λ d e. (1, degree_of_divisor, small d (sym degree_of_remainder ∙ e)) }
  where
    small : (d : ℕ) → Some 0 ≡ Some d → d < 1
    small zero e = omega arith
    small (suc d) e = cc

pub left_quotient_by_square : IsLeftQuotient gf8 (0 ∷ 5 ∷ []) (0 ∷ 1 ∷ []) (3 ∷ []) []
left_quotient_by_square = record { sum = SamePolynomial-from _ _ (sym left_by_square); remainder = zero_below (0 ∷ 1 ∷ []) }

pub right_quotient_by_square : IsRightQuotient gf8 (0 ∷ 5 ∷ []) (0 ∷ 1 ∷ []) (5 ∷ []) []
right_quotient_by_square = record { sum = SamePolynomial-from _ _ (sym right_by_square); remainder = zero_below (0 ∷ 1 ∷ []) }

pub left_quotient_with_remainder : IsLeftQuotient gf8 (6 ∷ 7 ∷ 1 ∷ []) (1 ∷ 1 ∷ []) (4 ∷ 1 ∷ []) (2 ∷ [])
left_quotient_with_remainder = record { sum = SamePolynomial-from _ _ (sym left_with_remainder); remainder = constant_below }

pub right_quotient_without_remainder : IsRightQuotient gf8 (6 ∷ 7 ∷ 1 ∷ []) (1 ∷ 1 ∷ []) (6 ∷ 1 ∷ []) []
right_quotient_without_remainder = record { sum = SamePolynomial-from _ _ (sym right_without_remainder); remainder = zero_below (1 ∷ 1 ∷ []) }
