use Rattle.std.proofs.Common.{◌≡◌, length, Err, Ok, refl, ap, subst, ◌∙◌}
use Rattle.kk_code.specs.Ticket.{TicketFields}
use Rattle.kk_outside.specs.Change.{change}
use Rattle.kk_outside.specs.Source.{bytes_read}
use Rattle.kk_outside.specs.Sink.{WasGiven}
use Rattle.kk_outside.specs.Outlet.{IsCutShort, append_datagrams}
use Rattle.kk_report.specs.Refusal.{status_of, refusal_text}
use Rattle.kk_report.specs.Report.{concluded_text}
use Rattle.kk_run_send.specs.Send.{ordered_datagrams, sent_line}
use Rattle.kk_run_send.proofs.Sends.{IsSending, asks_by, done_alone, failed_alone, sends_failed, sends_done, datagrams_by, frames_by, line_by, sent_err}
use Rattle.kk_run_send.proofs.sending.Sending.run.Goals as goal

pub returns-clause-sends : goal.returns-clause-sends
returns-clause-sends g c = λ words asked.
    let source = change (g.S.Source.told c.args.source.now) (g.S.Source.told c.send_all-sent.new.source) in
    let outlet = change (g.O.Outlet.told c.args.outlet.now) (g.O.Outlet.told c.send_all-sent.new.outlet) in
    let report = change (g.P.Sink.told c.args.report.now) (g.P.Sink.told c.refuse.new.report) in
    let s = c.self.inside in
    let order = asked.order in
    let file = bytes_read source in
    let asks = asks_by words c.args.self asked s.sender s.seed s.extra s.frames_per_datagram c.self.view_is in
    let h = c.in-Err.ensures in
    let sending : IsSending s.sender (ordered_datagrams order file) source outlet (Err c.in-Err.fault) = record {
      wrong = h.wrong_length;
      source_failed = h.source_failed;
      outlet_failed = h.outlet_failed;
      read = h.read;
      before = h.failed_before;
      left = h.remainder;
      prefix = λ e. subst (IsCutShort outlet) (datagrams_by order s.sender s.seed s.extra s.frames_per_datagram file c.from_seed-rng.result asks c.from_seed-rng.ensures) (h.prefix e);
    } in
    sends_failed words order c.in-Err.fault c.refuse.result source outlet report asked.ordered
    (subst (λ (u : TicketFields). IsSending u (ordered_datagrams order file) source outlet (Err c.in-Err.fault)) asks.ticket sending)
    (c.refuse.ensures.status ∙ ap status_of c.refusal_of.ensures)
    (subst (λ r. WasGiven (refusal_text r) report) c.refusal_of.ensures c.refuse.ensures.given)

pub returns-in-Ok-clause-sends : goal.returns-in-Ok-clause-sends
returns-in-Ok-clause-sends g c = λ words asked.
    let source = change (g.S.Source.told c.args.source.now) (g.S.Source.told c.send_all-sent.new.source) in
    let outlet = change (g.O.Outlet.told c.args.outlet.now) (g.O.Outlet.told c.send_all-sent.new.outlet) in
    let report = change (g.P.Sink.told c.args.report.now) (g.P.Sink.told c.conclude.new.report) in
    let s = c.self.inside in
    let order = asked.order in
    let file = bytes_read source in
    let asks = asks_by words c.args.self asked s.sender s.seed s.extra s.frames_per_datagram c.self.view_is in
    let h = c.in-Ok.ensures in
    let list = datagrams_by order s.sender s.seed s.extra s.frames_per_datagram file c.from_seed-rng.result asks c.from_seed-rng.ensures in
    let many = h.datagrams ∙ ap length list in
    let frames = h.frames ∙ frames_by order s.sender s.seed s.extra s.frames_per_datagram file c.from_seed-rng.result asks c.from_seed-rng.ensures in
    let line : c.as_str.result.now ≡ sent_line order file =
    c.as_str.ensures.value ∙ c.sent_line.ensures ∙ line_by order file c.in-Ok.sent.datagrams c.in-Ok.sent.frames many frames in
    let sending : IsSending s.sender (ordered_datagrams order file) source outlet (Ok c.in-Ok.sent) = record {
      wrong = h.wrong_length;
      source_failed = h.source_failed;
      outlet_failed = h.outlet_failed;
      read = h.read;
      before = h.failed_before;
      left = h.remainder;
      prefix = λ e. absurd (sent_err c.in-Ok.sent _ e);
    } in
    sends_done words order c.in-Ok.sent 0 c.conclude.result source outlet report asked.ordered
    (subst (λ (u : TicketFields). IsSending u (ordered_datagrams order file) source outlet (Ok c.in-Ok.sent)) asks.ticket sending)
    (h.sent ∙ ap (append_datagrams outlet.old.sends) list)
    (subst (λ l. WasGiven (concluded_text 0 l) report) line c.conclude.ensures.given) refl c.conclude.ensures.same_or_five c.conclude.ensures.five

pub returns-clause-accepted : goal.returns-clause-accepted
returns-clause-accepted g c = failed_alone c.in-Err.fault c.refuse.result (c.refuse.ensures.status ∙ ap status_of c.refusal_of.ensures)

pub returns-in-Ok-clause-accepted : goal.returns-in-Ok-clause-accepted
returns-in-Ok-clause-accepted g c = done_alone c.conclude.result c.conclude.ensures.same_or_five
