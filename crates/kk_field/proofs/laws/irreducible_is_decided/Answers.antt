use Rattle.kk_field.proofs.Irreducible.{irreducible-Decides}
use Rattle.kk_field.proofs.laws.irreducible_is_decided.Goals as goal

pub returns : goal.returns
returns c = irreducible-Decides
