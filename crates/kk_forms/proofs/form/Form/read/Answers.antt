use Rattle.std.proofs.Common.{◌∙◌, sym, map}
use Rattle.std.specs.Prelude.{string_bytes}
use Rattle.kk_forms.specs.Form.{form_of}
use Rattle.kk_forms.proofs.Requests.{unnamed}
use Rattle.kk_forms.proofs.form.Form.read.Goals as goal

pub returns-then-not-is_named-clause-refused : goal.returns-then-not-is_named-clause-refused
returns-then-not-is_named-clause-refused c =
    λ _. unnamed (form_of c.args.self.now) (map string_bytes c.args.words.now) (sym c.is_named.ensures ∙ c.if-not-is_named.true)
