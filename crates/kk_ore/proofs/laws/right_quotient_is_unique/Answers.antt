use Rattle.kk_ore.proofs.Uniqueness.{right_quotient_unique}
use Rattle.kk_ore.proofs.laws.right_quotient_is_unique.Goals as goal

pub returns : goal.returns
returns c f field = right_quotient_unique f field.modulus.low_below field.irreducible
