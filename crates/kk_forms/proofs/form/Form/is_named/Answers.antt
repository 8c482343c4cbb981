use Rattle.std.proofs.Common.{◌∙◌, sym}
use Rattle.kk_forms.specs.Form.{form_of}
use Rattle.kk_forms.proofs.Requests.{named_first, named_none}
use Rattle.kk_forms.proofs.form.Form.is_named.Goals as goal

pub returns-in-Some : goal.returns-in-Some
returns-in-Some c =
    let form = form_of c.args.self.now in
    c.eq.ensures ∙ sym (named_first form c.args.words.now c.in-Some.first.now c.as_str.result.now c.in-Some.ensures.value c.as_str.ensures.value)

pub returns-in-None : goal.returns-in-None
returns-in-None c = sym (named_none (form_of c.args.self.now) c.args.words.now c.in-None.ensures.value)
