use Rattle.std.proofs.Common.{◌∙◌, ap, sym, subst, map, None, Some, length, is_some}
use Rattle.std.specs.Prelude.{string_bytes}
use Rattle.kk_forms.specs.Form.{Form}
use Rattle.kk_forms.specs.Request.{HasTexts as HasTextsOf, has_option, has_sure_number, request_by}
use Rattle.kk_words.specs.Arguments.{seed_name, text_of_name}
use Rattle.kk_words.specs.Request.{Request, HasTexts, has_number, has_place, has_seed, number_of}
use Rattle.kk_words.proofs.Requests.{request_for_found, request_for_none, request_named, same_fault, sure_default, sure_place}
use Rattle.kk_words.proofs.reading.read_words.Goals as goal

pub returns-in_default-clause-refused : goal.returns-in_default-clause-refused
returns-in_default-clause-refused c = λ _. request_named (map string_bytes c.args.words.now) None c.in_default.ensures

pub returns-in-Err-clause-refused : goal.returns-in-Err-clause-refused
returns-in-Err-clause-refused c =
    let words = map string_bytes c.args.words.now in
    let command = c.in-Some.command in
    λ e. request_named words (Some command) c.in-Some.ensures
    ∙ request_for_none command words (ap (λ (f : Form). request_by f words) (sym c.form.ensures.form) ∙ c.in-Err.ensures.refused (same_fault _ _ e))

pub returns-in-Err-clause-memory : goal.returns-in-Err-clause-memory
returns-in-Err-clause-memory c = λ _. ap is_some (sym c.in-Some.ensures)

pub returns-clause-given : goal.returns-clause-given
returns-clause-given c =
    let words = map string_bytes c.args.words.now in
    let command = c.in-Some.command in
    request_named words (Some command) c.in-Some.ensures
    ∙ request_for_found command words c.in-Ok.request (ap (λ (f : Form). request_by f words) (sym c.form.ensures.form) ∙ c.in-Ok.ensures.given)
    ∙ ap Some (sym c.new.ensures)

pub returns-clause-texts : goal.returns-clause-texts
returns-clause-texts c =
    let texts = subst (λ (f : Form). HasTextsOf f (length c.in-Ok.request.texts)) c.form.ensures.form c.in-Ok.ensures.texts in
    subst (λ (r : Request). HasTexts r.command (length r.texts)) (sym c.new.ensures) texts

pub returns-clause-seed : goal.returns-clause-seed
returns-clause-seed c = λ has.
    let named = ap (λ (r : Request). has_seed r.command) (sym c.new.ensures) ∙ has in
    ap (λ (r : Request). is_some r.seed) c.new.ensures
    ∙ c.in-Ok.ensures.options seed_name (ap (λ (f : Form). has_option f seed_name) c.form.ensures.form ∙ named)

pub returns-clause-numbers : goal.returns-clause-numbers
unfolding number_of
returns-clause-numbers c = λ name default has.
    let named = ap (λ (r : Request). has_number r.command name) (sym c.new.ensures) ∙ has in
    let sure = sure_default c.in-Some.command name default named in
    ap (λ (r : Request). is_some (number_of r.numbers name)) c.new.ensures
    ∙ c.in-Ok.ensures.numbers (text_of_name name) (ap (λ (f : Form). has_sure_number f (text_of_name name)) c.form.ensures.form ∙ sure)

pub returns-clause-placed : goal.returns-clause-placed
unfolding number_of
returns-clause-placed c = λ name has.
    let named = ap (λ (r : Request). has_place r.command name) (sym c.new.ensures) ∙ has in
    let sure = sure_place c.in-Some.command name named in
    ap (λ (r : Request). is_some (number_of r.numbers name)) c.new.ensures
    ∙ c.in-Ok.ensures.numbers (text_of_name name) (ap (λ (f : Form). has_sure_number f (text_of_name name)) c.form.ensures.form ∙ sure)
