use Rattle.std.proofs.Common.{◌≡◌, map, take}
use Rattle.std.specs.Prelude.{string_bytes}
use Rattle.clap.specs.Matches.{found_of}
use Rattle.clap.specs.Walk.{rows_of}
use Rattle.kk_forms.specs.Form.{argument_of}
use Rattle.kk_forms.specs.Request.{options_in}
use Rattle.kk_forms.proofs.reading.options_in.Given as goal

abbrev pub invariant-loop-argument : goal.invariant-loop-argument
invariant-loop-argument l =
    map (λ option. (option.0.now, string_bytes option.1)) l.options.items
    ≡ options_in (map argument_of (take l.argument-index l.arguments)) (rows_of (found_of l.matches))
