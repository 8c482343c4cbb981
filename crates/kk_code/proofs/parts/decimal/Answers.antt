use Rattle.std.proofs.Common.{◌≡◌, true, sym, ap, ◌∙◌}
use Rattle.std.specs.Result.{result_ok}
use Rattle.std.proofs.lemmas.Bool.{cond-true}
use Rattle.kk_code.specs.TicketText.{is_decimal}
use Rattle.kk_code.proofs.Numerals.{decimal_parses, decimal_value_below}
use Rattle.kk_code.proofs.parts.decimal.Goals as goal

pub returns-then-is_decimal-clause-value : goal.returns-then-is_decimal-clause-value
returns-then-is_decimal-clause-value c =
    let shaped : is_decimal c.args.text.now ≡ true = sym (ap (is_decimal) c.as_bytes.ensures.value) ∙ sym c.is_decimal.ensures ∙ c.if-is_decimal.true in
    c.ok.ensures.value ∙ ap result_ok (decimal_parses c.args.text.now c.parse.result shaped c.parse.ensures.value.0)
    ∙ sym (cond-true _ _ _ shaped)

pub returns-then-is_decimal-clause-below : goal.returns-then-is_decimal-clause-below
returns-then-is_decimal-clause-below c =
    let shaped : is_decimal c.args.text.now ≡ true = sym (ap (is_decimal) c.as_bytes.ensures.value) ∙ sym c.is_decimal.ensures ∙ c.if-is_decimal.true in
    rw (c.ok.ensures.value, decimal_parses c.args.text.now c.parse.result shaped c.parse.ensures.value.0)
    (decimal_value_below c.args.text.now shaped)
