use Rattle.std.proofs.Common.{◌∙◌, ap}
use Rattle.std.specs.Prelude.{option_and_then}
use Rattle.clap.specs.Matches.{found_of}
use Rattle.clap.proofs.WalkLemmas.{first_value-rows}
use Rattle.kk_forms.specs.Request.{number_read}
use Rattle.kk_forms.proofs.Matches.{number_parsed}
use Rattle.kk_forms.proofs.reading.number_given.Goals as goal

pub returns-in_err-get_str : goal.returns-in_err-get_str
returns-in_err-get_str c =
    let first = c.in_err-get_str.ensures ∙ first_value-rows (found_of c.args.matches.now) c.args.name.now in
    c.from_residual.ensures ∙ ap (option_and_then number_read) first

pub returns : goal.returns
returns c =
    let first = c.in_ok-get_str.ensures ∙ first_value-rows (found_of c.args.matches.now) c.args.name.now in
    c.ok.ensures.value ∙ number_parsed c.in_ok-get_str.field-0.now c.parse.result c.parse.ensures.value.0 ∙ ap (option_and_then number_read) first
