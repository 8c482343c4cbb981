use Rattle.std.proofs.Common.{rules, ◌∙◌, ◌≡◌, ℕ, List, Option, Ok, subst, sym, ap, arith}
use Rattle.kk_rows.specs.Space.{Space}
use Rattle.kk_outside.specs.Change.{change}
use Rattle.kk_outside.specs.Source.{bytes_read}
use Rattle.kk_outside.specs.Sink.{WasGiven}
use Rattle.kk_outcome.specs.Answers.{file_of}
use Rattle.kk_outcome.specs.Delivery.{IsDelivered}
use Rattle.kk_order.specs.Order.{Order}
use Rattle.kk_report.specs.Status.{code_of}
use Rattle.kk_run_unpack.specs.Report.{outcome_report}
use Rattle.kk_run_unpack.specs.Unpack.{max_pieces, unpacked}
use Rattle.kk_run_unpack.proofs.Unpacks.{unpacks_failed, unpacks_received}
use Rattle.kk_run_unpack.proofs.Asking.{named_by}
use Rattle.kk_run_unpack.proofs.Reporting.{unpacked-is, IsRun-received}
use Rattle.kk_run_unpack.proofs.Counted.{innovative_at_most}
use Rattle.kk_run_unpack.proofs.unpacking.Unpacking.run.Goals as goal

pub returns-in_default-clause-unpacks : goal.returns-in_default-clause-unpacks
returns-in_default-clause-unpacks g c = λ words ordered.
    unpacks_failed words c.ticket-ticket.result.now c.self.inside.most c.refuse.result
    (change (g.S.Source.told c.args.source.now) (g.S.Source.told c.receive.new.source)) (g.K.Sink.told c.args.file.now) (change (g.P.Sink.told c.args.report.now) (g.P.Sink.told c.refuse.new.report))
    (named_by words c.args.self c.self.inside.order c.ticket-ticket.result.now c.self.inside.most ordered c.ticket-ticket.ensures c.self.invariant.0 c.self.view_is)
    c.refuse.ensures.status (search rules) c.in_default.ensures.failed c.refuse.ensures.given

pub report_capture-requires-clause-innovative : goal.report_capture-requires-clause-innovative
report_capture-requires-clause-innovative g c =
    let received = c.in-Ok.ensures.received in
    let are : c.spaces.result.now ≡ c.receive.new.self.spaces = c.spaces.ensures ∙ c.decode.ensures.spaces in
    rw are (omega (arith, innovative_at_most c.ticket-ticket.result.now c.receive.new.self.spaces _ received.spanned, ap (λ counts. counts.frames) received.counts))

pub returns-clause-no_bytes : goal.returns-clause-no_bytes
returns-clause-no_bytes g c = λ none.
    let bytes = bytes_read (change (g.S.Source.told c.args.source.now) (g.S.Source.told c.receive.new.source)) in
    let ticket : c.ticket-ticket.result.now ≡ c.args.self.ticket = c.ticket-ticket.ensures ∙ ap (λ (o : Order). o.ticket) c.self.view_is in
    let most : c.self.inside.most ≡ max_pieces c.args.self = c.self.invariant.0 ∙ ap (λ (o : Order). max_pieces o) c.self.view_is in
    let found = c.answers.ensures.answers ∙ c.decode.ensures.answers _ c.in-Ok.ensures.received.spanned in
    c.deliver-status.ensures.no_bytes
    (ap (file_of c.ticket-ticket.result.now) found ∙ sym (unpacked-is c.ticket-ticket.result.now c.self.inside.most bytes) ∙ (λ i. unpacked (ticket i) (most i) bytes) ∙ none)

pub returns-clause-unpacks : goal.returns-clause-unpacks
returns-clause-unpacks g c = λ words ordered.
    let t = c.ticket-ticket.result.now in
    let most = c.self.inside.most in
    let source = change (g.S.Source.told c.args.source.now) (g.S.Source.told c.receive.new.source) in
    let file = change (g.K.Sink.told c.args.file.now) (g.K.Sink.told c.deliver-status.new.file) in
    let report = change (g.P.Sink.told c.args.report.now) (g.P.Sink.told c.report_capture.new.report) in
    let told = code_of c.deliver-status.result in
    let received = c.in-Ok.ensures.received in
    let spaces = c.receive.new.self.spaces in
    let found = c.decode.new.self.answers in
    let counted = c.in-Ok.counts in
    let delivered = subst (λ (f : List (Option (List ℕ))). IsDelivered (file_of t f) told file) c.answers.ensures.answers c.deliver-status.ensures.delivered in
    let text = ap (λ (s : List Space). outcome_report told counted s c.answers-2.result.now) (c.spaces.ensures ∙ c.decode.ensures.spaces)
    ∙ ap (λ (f : List (Option (List ℕ))). outcome_report told counted spaces f) c.answers-2.ensures.answers in
    let run = IsRun-received t most told c.report_capture.result source file report counted spaces found received (c.decode.ensures.answers _ received.spanned) delivered
    (subst (λ l. WasGiven l report) text c.report_capture.ensures.given) c.report_capture.ensures.same_or_five in
    unpacks_received words t most told c.report_capture.result _ source file report
    (named_by words c.args.self c.self.inside.order t most ordered c.ticket-ticket.ensures c.self.invariant.0 c.self.view_is)
    run c.in-Ok.ensures.cause.kept c.deliver-status.ensures.delivered c.report_capture.ensures.same_or_five c.report_capture.ensures.five
