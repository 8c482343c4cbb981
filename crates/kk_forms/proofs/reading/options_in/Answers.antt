use Rattle.std.proofs.Common.{◌∙◌, ap, sym, map, [], ◌++◌, String, Vec, append-nil, Option, Some, option_map}
use Rattle.std.specs.Prelude.{string_bytes}
use Rattle.std.specs.Borrow.{Bor}
use Rattle.std.specs.declared.alloc.Global.{Global}
use Rattle.std.specs.List.{cons_option}
use Rattle.std.proofs.lemmas.List.{map-append}
use Rattle.clap.specs.Matches.{found_of}
use Rattle.clap.specs.Walk.{Text, rows_of}
use Rattle.clap.proofs.WalkLemmas.{first_value-rows}
use Rattle.kk_forms.specs.Form.{argument_of}
use Rattle.kk_forms.specs.Request.{option_at}
use Rattle.kk_forms.proofs.Matches.{no_option, options_more}
use Rattle.kk_forms.proofs.reading.options_in.Goals as goal
use Rattle.kk_forms.proofs.reading.options_in.Goals.{in-TextOption+in-Some+in_ok-from_str+in_ok-push, in-TextOption+in_default-get_str, in_default}

pub loop-argument-preserved : goal.loop-argument-preserved
loop-argument-preserved c =
    let found = found_of c.args.matches.now in
    let rows = rows_of found in
    let see : Bor Text × String Global → Text × Text = λ option. (option.0.now, string_bytes option.1) in
    let items = λ (v : Vec (Bor Text × String Global) Global). map see v.items in
    let old = map see c.loop-argument.options.items in
    let more = λ (made : Option (Text × Text)). old ++ cons_option made [] in
    let step = options_more rows c.args.arguments.now c.loop-argument.argument-index _ c.loop-argument-test.true old (map see c.match-argument.options.items) c.loop-argument.invariant in
    elim c.match-argument.branch [
      | in-TextOption+in-Some+in_ok-from_str+in_ok-push w ↦ let name = w.in-TextOption.name.now in
          step (ap items w.options-is ∙ ap (map see) w.in_ok-push.ensures.items ∙ map-append see c.loop-argument.options.items _
          ∙ ap more (ap {B = Option (Text × Text)} (λ t. Some (name, t)) w.in_ok-from_str.ensures.ok
          ∙ ap {B = Option (Text × Text)} (option_map (λ given. (name, given))) (w.in-Some.ensures ∙ first_value-rows found name)
          ∙ ap (λ a. option_at rows (argument_of a)) (sym w.in-TextOption.is)))
      | in-TextOption+in_default-get_str w ↦ let name = w.in-TextOption.name.now in
          step (ap items w.options-is ∙ sym (append-nil old)
          ∙ ap more (ap {B = Option (Text × Text)} (option_map (λ given. (name, given))) (w.in_default-get_str.ensures ∙ first_value-rows found name)
          ∙ ap (λ a. option_at rows (argument_of a)) (sym w.in-TextOption.is)))
      | in_default w ↦ step (ap items w.options-is ∙ sym (append-nil old) ∙ ap more (sym (no_option rows _ w.in_default.not-TextOption)))
    ]
