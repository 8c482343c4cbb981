use Rattle.std.proofs.Common.{inl, inr, arith}
use Rattle.std.proofs.lemmas.Bool.{cases_lt}
use Rattle.kk_field.proofs.Fields.{no_zero_divisors_of_residues}
use Rattle.kk_field.proofs.laws.no_zero_divisors.Goals as goal

pub returns : goal.returns
returns c = λ f h a b a_below b_below e.
    elim (cases_lt 0 a) [
      | inl positive ↦ inr (no_zero_divisors_of_residues f h.modulus.low_below h.irreducible a b a_below positive b_below e)
      | inr less ↦ inl (omega arith)
    ]
