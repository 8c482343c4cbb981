use Rattle.std.proofs.Common.{◌∙◌, ◌++◌, ap, string_bytes}
use Rattle.kk_order.proofs.Joined.{joined_more}
use Rattle.kk_order.proofs.order_form.parts_text.Goals as goal

pub loop-i-preserved : goal.loop-i-preserved
loop-i-preserved c =
    c.in_ok-push_str-2.ensures.bytes
    ∙ ap (λ bytes. bytes ++ c.text.result.now) c.in_ok-push_str.ensures.bytes
    ∙ joined_more c.args.request.now.texts c.loop-i.i c.text.result.now (string_bytes c.loop-i.text) c.loop-i.invariant c.text.ensures
