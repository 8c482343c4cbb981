use Rattle.std.proofs.Common.{◌+◌, take, ap, ◌∙◌, arith}
use Rattle.std.proofs.lemmas.List.{take_all}
use Rattle.kk_code.specs.Ticket.{TicketFields}
use Rattle.kk_outside.specs.Outlet.{append_datagrams}
use Rattle.kk_outside.specs.SourceState.{SourceState}
use Rattle.kk_outside.specs.Generator.{word_at}
use Rattle.kk_sender.specs.SentFrames.{sent_datagrams}
use Rattle.kk_test_motion.proofs.sender.send_bytes.Goals as goal

pub returns-in-Ok-send_all : goal.returns-in-Ok-send_all
returns-in-Ok-send_all g c =
    let t = c.in-Ok.sender in
    let bytes = c.args.bytes.items in
    let old = (g.O.Outlet.told c.args.outlet.now).sends in
    let word = word_at (g.R.Rng.stream c.args.rng.now) in
    let taken = (c.in-Ok-send_all.ensures.remainder (λ e. cc e)).taken in
    let left = ap (λ (s : SourceState). take (t.length + 1) s.left) c.new-source.ensures in
    let all = take_all (t.length + 1) bytes (omega (arith, ap (λ (u : TicketFields). u.length) c.in-Ok.ensures, c.requires, c.args.bytes.ok.0)) in
    c.in-Ok-send_all.ensures.sent ∙ ap (λ f. append_datagrams old (sent_datagrams t f 0 32 word)) (taken ∙ left ∙ all)
    ∙ ap (λ (u : TicketFields). append_datagrams old (sent_datagrams u bytes 0 32 word)) c.in-Ok.ensures
