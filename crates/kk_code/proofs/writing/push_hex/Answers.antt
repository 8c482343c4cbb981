use Rattle.std.proofs.Common.{◌≡◌, ◌+◌, ◌-◌, ◌*◌, ◌/◌, ◌%◌, ◌^◌, ◌<◌, [], ◌∷◌, ◌++◌, length, sym, ap, ◌∙◌, arith, append_assoc, length-append}
use Rattle.std.proofs.lemmas.List.{append-nil}
use Rattle.kk_code.specs.Ticket.{hex}
use Rattle.kk_code.proofs.Numerals.{hex-more, hex-none, hex_digit_below}
use Rattle.kk_code.proofs.writing.push_hex.Goals as goal

pub loop-i-init : goal.loop-i-init
loop-i-init c = (sym (ap (λ h. c.push.new.self.bytes ++ h) (hex-none _) ∙ append-nil c.push.new.self.bytes), omega arith)

pub loop-i-preserved : goal.loop-i-preserved
loop-i-preserved c =
    let front = c.push.new.self.bytes in
    let digit = c.args.n / 2 ^ (4 * (c.args.width - 1 - c.loop-i.i)) % 16 in
    let ascii : c.hex_digit.result < 128 = rw c.hex_digit.ensures (hex_digit_below digit (omega arith)) in
    let bytes = c.push-in-loop-i.ensures.ascii ascii in
    let more = hex-more c.args.width c.loop-i.i c.args.n c.loop-i-test.true in
    let all : c.push-in-loop-i.new.self.bytes ≡ front ++ hex (c.loop-i.i + 1) (c.args.n / 16 ^ (c.args.width - (c.loop-i.i + 1))) =
    bytes ∙ ap (λ b. b ++ c.hex_digit.result ∷ []) c.loop-i.invariant.0 ∙ append_assoc front _ _
    ∙ ap (λ d. front ++ (hex c.loop-i.i (c.args.n / 16 ^ (c.args.width - c.loop-i.i)) ++ d ∷ [])) c.hex_digit.ensures
    ∙ ap (λ h. front ++ h) (sym more) in
    (all, omega (arith, ap length bytes, length-append c.loop-i.text.bytes (c.hex_digit.result ∷ []), c.loop-i.invariant.1))
