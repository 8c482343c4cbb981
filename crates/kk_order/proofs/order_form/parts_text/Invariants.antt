use Rattle.std.proofs.Common.{◌≡◌, ◌++◌, codes, string_bytes, take}
use Rattle.std.specs.List.{flat_map}
use Rattle.kk_order.proofs.order_form.parts_text.Given as goal

abbrev pub invariant-loop-i : goal.invariant-loop-i
invariant-loop-i l = string_bytes l.text ≡ codes "kk1" ++ flat_map (λ text. codes ":" ++ text) (take l.i l.fn.request.texts)
