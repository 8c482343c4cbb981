use Rattle.std.proofs.Common.{◌≡◌, map, take}
use Rattle.clap.specs.Simple.{app_of}
use Rattle.kk_forms.specs.Form.{app_with, argument_of, rule_of_argument}
use Rattle.kk_forms.proofs.form.Form.clap_command.Given as goal

abbrev pub invariant-loop-argument : goal.invariant-loop-argument
invariant-loop-argument l =
    app_of l.app ≡ app_with l.self.name.now (map rule_of_argument (map argument_of (take l.argument-index l.self.arguments.now)))
