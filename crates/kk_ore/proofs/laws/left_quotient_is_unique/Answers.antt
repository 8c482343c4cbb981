use Rattle.kk_ore.proofs.Uniqueness.{left_quotient_unique}
use Rattle.kk_ore.proofs.laws.left_quotient_is_unique.Goals as goal

pub returns : goal.returns
returns c f field = left_quotient_unique f field.modulus.low_below field.irreducible
