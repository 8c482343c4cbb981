use Rattle.std.proofs.Common.{◌≡◌, map, take}
use Rattle.clap.specs.Matches.{found_of}
use Rattle.clap.specs.Walk.{rows_of}
use Rattle.kk_forms.specs.Form.{argument_of}
use Rattle.kk_forms.specs.Request.{numbers_in}
use Rattle.kk_forms.proofs.reading.numbers_in.Given as goal

abbrev pub invariant-loop-argument : goal.invariant-loop-argument
invariant-loop-argument l =
    map (λ number. (number.0.now, number.1)) l.numbers.items
    ≡ numbers_in (map argument_of (take l.argument-index l.arguments)) (rows_of (found_of l.matches))
