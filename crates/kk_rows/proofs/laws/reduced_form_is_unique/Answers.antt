use Rattle.kk_rows.proofs.ReducedForm.{reduced_form_is_unique}
use Rattle.kk_rows.proofs.laws.reduced_form_is_unique.Goals as goal

pub returns : goal.returns
returns c = reduced_form_is_unique
