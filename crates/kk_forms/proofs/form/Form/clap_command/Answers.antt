use Rattle.std.proofs.Common.{◌∙◌, ap, ap₂, sym, map, take}
use Rattle.clap.specs.Simple.{with_rule}
use Rattle.std.proofs.lemmas.List.{map-append, map_more}
use Rattle.kk_forms.specs.Form.{app_with, argument_of, rule_of_argument}
use Rattle.kk_forms.proofs.form.Form.clap_command.Goals as goal

pub loop-argument-preserved : goal.loop-argument-preserved
loop-argument-preserved c =
    let form = c.args.self.now in
    let i = c.loop-argument.argument-index in
    let before = map argument_of (take i form.arguments.now) in
    let more = ap (map rule_of_argument) (map_more argument_of form.arguments.now i _ c.loop-argument-test.true) ∙ map-append rule_of_argument before _ in
    c.in_ok-app.ensures.shape c.clap_arg.ensures.local ∙ ap₂ with_rule c.loop-argument.invariant c.clap_arg.ensures.rule
    ∙ ap (λ rules. app_with form.name.now rules) (sym more)
