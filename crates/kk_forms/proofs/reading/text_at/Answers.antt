use Rattle.std.proofs.Common.{◌∙◌, ap}
use Rattle.std.proofs.lemmas.Result.{IfOk-weaker}
use Rattle.clap.specs.Matches.{found_of}
use Rattle.clap.proofs.WalkLemmas.{first_value-rows}
use Rattle.kk_forms.proofs.Matches.{text_or}
use Rattle.kk_forms.proofs.reading.text_at.Goals as goal

pub returns : goal.returns
returns c =
    let first = c.get_str.ensures ∙ first_value-rows (found_of c.args.matches.now) c.args.name.now in
    let text = ap (λ s. s.now) c.unwrap_or.ensures ∙ text_or c.get_str.result _ _ first in
    IfOk-weaker c.from_str.result _ _ (λ t e. e ∙ text) c.from_str.ensures.ok
