use Rattle.std.proofs.Common.{◌∙◌, ◌++◌, ap, map}
use Rattle.std.specs.Prelude.{string_bytes}
use Rattle.std.proofs.lemmas.List.{take_all}
use Rattle.clap.specs.Matches.{found_of}
use Rattle.kk_forms.proofs.Matches.{all_texts, no_texts}
use Rattle.kk_forms.proofs.reading.push_texts.Goals as goal

pub returns-in_default : goal.returns-in_default
returns-in_default c = no_texts (found_of c.args.matches.now) c.args.name.now (map string_bytes c.args.texts.now.items) c.in_default.ensures

pub returns : goal.returns
returns c =
    let given = c.in-Some.given.now in
    let old = map string_bytes c.args.texts.now.items in
    let all = take_all c.loop-text.text-index given c.loop-text-test.false in
    all_texts (found_of c.args.matches.now) c.args.name.now old (map (λ s. s.now) given) _ c.in-Some.ensures
    (c.loop-text.invariant ∙ ap (λ ts. old ++ map (λ s. s.now) ts) all)
