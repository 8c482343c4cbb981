use Rattle.std.proofs.Common.{◌+◌, ◌^◌, subst, sym}
use Rattle.kk_field.specs.Polynomial.{IsRemainder, remainder}
use Rattle.kk_field.proofs.Remainders.{HasDegree-modulus, remainder-is, IsRemainder_unique}
use Rattle.kk_field.proofs.laws.remainder_is_unique.Goals as goal

pub returns : goal.returns
returns c = λ m low a r at_least_one h.
    let p = 2 ^ m + low in
    let d = HasDegree-modulus m low h in (
      λ is. IsRemainder_unique m p d a r (remainder m p a) is (remainder-is m p d a),
      λ e. subst (IsRemainder m p a) (sym e) (remainder-is m p d a),
    )
