use Rattle.std.proofs.Common.{◌≡◌, true, sym, ap, ◌∙◌}
use Rattle.std.specs.Result.{result_ok}
use Rattle.std.proofs.lemmas.Bool.{cond-true}
use Rattle.kk_code.specs.TicketText.{is_hex}
use Rattle.kk_code.proofs.Numerals.{hex_parses, hex_value_below}
use Rattle.kk_code.proofs.parts.hex.Goals as goal

pub returns-then-is_hex-clause-value : goal.returns-then-is_hex-clause-value
returns-then-is_hex-clause-value c =
    let shaped : is_hex c.args.width c.args.text.now ≡ true = sym (ap (is_hex c.args.width) c.as_bytes.ensures.value) ∙ sym c.is_hex.ensures ∙ c.if-is_hex.true in
    c.ok.ensures.value ∙ ap result_ok (hex_parses c.args.width c.args.text.now c.from_str_radix.result c.requires.positive c.requires.wide shaped c.from_str_radix.ensures.value)
    ∙ sym (cond-true _ _ _ shaped)

pub returns-then-is_hex-clause-below : goal.returns-then-is_hex-clause-below
returns-then-is_hex-clause-below c =
    let shaped : is_hex c.args.width c.args.text.now ≡ true = sym (ap (is_hex c.args.width) c.as_bytes.ensures.value) ∙ sym c.is_hex.ensures ∙ c.if-is_hex.true in
    rw (c.ok.ensures.value, hex_parses c.args.width c.args.text.now c.from_str_radix.result c.requires.positive c.requires.wide shaped c.from_str_radix.ensures.value)
    (hex_value_below c.args.width c.args.text.now shaped)
