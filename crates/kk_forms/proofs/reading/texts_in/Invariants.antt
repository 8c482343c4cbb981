use Rattle.std.proofs.Common.{◌≡◌, map, take}
use Rattle.std.specs.Prelude.{string_bytes}
use Rattle.clap.specs.Matches.{found_of}
use Rattle.clap.specs.Walk.{rows_of}
use Rattle.kk_forms.specs.Form.{argument_of}
use Rattle.kk_forms.specs.Request.{texts_in}
use Rattle.kk_forms.proofs.reading.texts_in.Given as goal

abbrev pub invariant-loop-argument : goal.invariant-loop-argument
invariant-loop-argument l =
    map string_bytes l.texts.items ≡ texts_in (map argument_of (take l.argument-index l.arguments)) (rows_of (found_of l.matches))
