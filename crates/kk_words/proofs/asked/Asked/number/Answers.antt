use Rattle.std.proofs.Common.{◌∙◌, ap}
use Rattle.kk_forms.specs.Request.{under}
use Rattle.kk_words.specs.Request.{Request, number_of}
use Rattle.kk_words.proofs.asked.Asked.number.Goals as goal

pub returns : goal.returns
unfolding number_of
returns c =
    c.number.ensures ∙ ap (under c.self.inside.request.numbers) c.text.ensures ∙ ap (λ (r : Request). number_of r.numbers c.args.name) c.self.view_is
