use Rattle.std.proofs.Common.{◌∙◌, ap, sym, map, [], ◌++◌, ℕ, Vec, append-nil, Option, Some}
use Rattle.std.specs.Borrow.{Bor}
use Rattle.std.specs.declared.alloc.Global.{Global}
use Rattle.std.specs.List.{cons_option}
use Rattle.std.proofs.lemmas.List.{map-append}
use Rattle.clap.specs.Matches.{found_of}
use Rattle.clap.specs.Walk.{Text, rows_of}
use Rattle.kk_forms.proofs.Matches.{numbers_more}
use Rattle.kk_forms.proofs.reading.numbers_in.Goals as goal
use Rattle.kk_forms.proofs.reading.numbers_in.Goals.{in-Some+in_ok-push, in_default}

pub loop-argument-preserved : goal.loop-argument-preserved
loop-argument-preserved c =
    let rows = rows_of (found_of c.args.matches.now) in
    let see : Bor Text × ℕ → Text × ℕ = λ number. (number.0.now, number.1) in
    let items = λ (v : Vec (Bor Text × ℕ) Global). map see v.items in
    let old = map see c.loop-argument.numbers.items in
    let more = λ (made : Option (Text × ℕ)). old ++ cons_option made [] in
    let step = numbers_more rows c.args.arguments.now c.loop-argument.argument-index _ c.loop-argument-test.true old (map see c.match-number_at.numbers.items) c.loop-argument.invariant in
    elim c.match-number_at.branch [
      | in-Some+in_ok-push w ↦ step (ap items w.numbers-is ∙ ap (map see) w.in_ok-push.ensures.items ∙ map-append see c.loop-argument.numbers.items _
          ∙ ap more (ap {B = Option (Text × ℕ)} (λ name. Some (name, w.in-Some.number)) w.name.ensures ∙ w.in-Some.ensures))
      | in_default w ↦ step (ap items w.numbers-is ∙ sym (append-nil old) ∙ ap more w.in_default.ensures)
    ]
