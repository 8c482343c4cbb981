use Rattle.kk_field.proofs.Criterion.{irreducible_from, fixes_x, only_trivial}
use Rattle.kk_field.proofs.laws.irreducibility_criterion.Goals as goal

pub returns : goal.returns
returns c = λ f h. (λ irreducible. (fixes_x f h irreducible, only_trivial f h irreducible), λ both. irreducible_from f h both.0 both.1)
