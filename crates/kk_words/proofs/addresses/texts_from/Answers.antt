use Rattle.std.proofs.Common.{◌∙◌, ◌++◌, ◌∷◌, [], ap, map}
use Rattle.std.specs.Prelude.{string_bytes}
use Rattle.std.proofs.lemmas.List.{map-append}
use Rattle.kk_words.proofs.Addressing.{one_more}
use Rattle.kk_words.proofs.addresses.texts_from.Goals as goal

pub loop-i-preserved : goal.loop-i-preserved
loop-i-preserved c =
    let old = map string_bytes c.loop-i.texts.items in
    let pushed = ap (map string_bytes) c.in_ok-push.ensures.items ∙ map-append string_bytes c.loop-i.texts.items _
    ∙ ap (λ t. old ++ t ∷ []) c.in_ok-from_str.ensures.ok in
    one_more c.args.asked.now.texts old _ c.loop-i.i c.text.result.now c.text.ensures pushed ∙ c.loop-i.invariant
