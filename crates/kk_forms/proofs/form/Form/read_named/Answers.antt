use Rattle.std.proofs.Common.{◌≡◌, ◌∙◌, ap, sym, subst, map, [], length, is_some}
use Rattle.std.specs.Prelude.{string_bytes}
use Rattle.clap.specs.Matches.{found_of}
use Rattle.clap.specs.Walk.{rows_of}
use Rattle.clap.specs.Simple.{App, is_simple, matches_of}
use Rattle.clap.specs.Takes.{takes}
use Rattle.clap.specs.Faults.{fault_of, is_simple_and_free}
use Rattle.kk_forms.specs.Form.{app_of_form, form_of}
use Rattle.kk_forms.specs.Request.{HasTexts, numbers_in, options_in, texts_in, under}
use Rattle.kk_forms.proofs.Requests.{form_numbers, form_options, form_texts, never_words, requested, untaken}
use Rattle.kk_forms.proofs.Rules.{simple, simple_and_free, taken}
use Rattle.kk_forms.proofs.form.Form.read_named.Goals as goal

pub returns-in-Err-clause-refused : goal.returns-in-Err-clause-refused
returns-in-Err-clause-refused c =
    let form = form_of c.args.self.now in
    let words = map string_bytes c.args.words.now in
    λ e. untaken form words
    (λ passes. never_words c.fault_of.result (c.fault_of.ensures.1 (c.in-Err.ensures.passes (ap (λ (a : App). takes a words) c.in_ok-app.ensures ∙ passes))) e)

pub returns-clause-given : goal.returns-clause-given
returns-clause-given c =
    let form = form_of c.args.self.now in
    let words = map string_bytes c.args.words.now in
    let app = c.in_ok-app.ensures in
    let none : fault_of (app_of_form form) words ≡ [] =
    subst (λ (a : App). fault_of a words ≡ []) app (c.in-Ok.ensures.kinds (ap is_simple_and_free app ∙ simple_and_free form c.requires.sound)) in
    let rows : rows_of (found_of c.in-Ok.matches) ≡ matches_of (app_of_form form) words =
    (c.in-Ok.ensures.matches (ap is_simple app ∙ simple form c.requires.sound)).0 ∙ ap (λ (a : App). matches_of a words) app in
    requested form words c.new.result c.requires.named (taken form c.requires.sound words none)
    (c.new.ensures.texts ∙ c.in_ok-texts.ensures ∙ ap (texts_in form.arguments) rows)
    (c.new.ensures.options ∙ c.in_ok-options.ensures ∙ ap (options_in form.arguments) rows)
    (c.new.ensures.numbers ∙ c.in_ok-numbers.ensures ∙ ap (numbers_in form.arguments) rows)

pub returns-clause-texts : goal.returns-clause-texts
returns-clause-texts c =
    let form = form_of c.args.self.now in
    let words = map string_bytes c.args.words.now in
    let app = c.in_ok-app.ensures in
    let none : fault_of (app_of_form form) words ≡ [] =
    subst (λ (a : App). fault_of a words ≡ []) app (c.in-Ok.ensures.kinds (ap is_simple_and_free app ∙ simple_and_free form c.requires.sound)) in
    let rows : rows_of (found_of c.in-Ok.matches) ≡ matches_of (app_of_form form) words =
    (c.in-Ok.ensures.matches (ap is_simple app ∙ simple form c.requires.sound)).0 ∙ ap (λ (a : App). matches_of a words) app in
    subst (λ texts. HasTexts form (length texts)) (sym (c.new.ensures.texts ∙ c.in_ok-texts.ensures ∙ ap (texts_in form.arguments) rows))
    (form_texts form words (taken form c.requires.sound words none))

pub returns-clause-options : goal.returns-clause-options
returns-clause-options c =
    let form = form_of c.args.self.now in
    let words = map string_bytes c.args.words.now in
    let app = c.in_ok-app.ensures in
    let none : fault_of (app_of_form form) words ≡ [] =
    subst (λ (a : App). fault_of a words ≡ []) app (c.in-Ok.ensures.kinds (ap is_simple_and_free app ∙ simple_and_free form c.requires.sound)) in
    let rows : rows_of (found_of c.in-Ok.matches) ≡ matches_of (app_of_form form) words =
    (c.in-Ok.ensures.matches (ap is_simple app ∙ simple form c.requires.sound)).0 ∙ ap (λ (a : App). matches_of a words) app in
    let options = c.new.ensures.options ∙ c.in_ok-options.ensures ∙ ap (options_in form.arguments) rows in
    λ name has. ap (λ entries. is_some (under entries name)) options ∙ form_options form words (taken form c.requires.sound words none) name has

pub returns-clause-numbers : goal.returns-clause-numbers
returns-clause-numbers c =
    let form = form_of c.args.self.now in
    let words = map string_bytes c.args.words.now in
    let app = c.in_ok-app.ensures in
    let none : fault_of (app_of_form form) words ≡ [] =
    subst (λ (a : App). fault_of a words ≡ []) app (c.in-Ok.ensures.kinds (ap is_simple_and_free app ∙ simple_and_free form c.requires.sound)) in
    let rows : rows_of (found_of c.in-Ok.matches) ≡ matches_of (app_of_form form) words =
    (c.in-Ok.ensures.matches (ap is_simple app ∙ simple form c.requires.sound)).0 ∙ ap (λ (a : App). matches_of a words) app in
    let numbers = c.new.ensures.numbers ∙ c.in_ok-numbers.ensures ∙ ap (numbers_in form.arguments) rows in
    λ name has. ap (λ entries. is_some (under entries name)) numbers ∙ form_numbers form words (taken form c.requires.sound words none) name c.requires.sound has
