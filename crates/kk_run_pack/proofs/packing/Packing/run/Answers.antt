use Rattle.std.proofs.Common.{◌≡◌, ◌-◌, ◌+◌, length, take, refl, ap, subst, sym, ◌∙◌, arith}
use Rattle.kk_outside.specs.Change.{change}
use Rattle.kk_outside.specs.Source.{bytes_read}
use Rattle.kk_outside.specs.Sink.{WasGiven}
use Rattle.kk_sender.proofs.Lengths.{the_file}
use Rattle.kk_report.specs.Refusal.{status_of, refusal_text}
use Rattle.kk_report.specs.Report.{concluded_text}
use Rattle.kk_report.specs.Status.{code_of}
use Rattle.kk_run_pack.specs.Pack.{NamesTicket, frames_line}
use Rattle.kk_run_pack.proofs.Packs.{packs_unread, packs_read, read_alone, unread_alone, was_read}
use Rattle.kk_run_pack.proofs.packing.Packing.run.Goals as goal

pub returns-in-Err-clause-packs : goal.returns-in-Err-clause-packs
returns-in-Err-clause-packs g c = λ words named.
    let source = change (g.S.Source.told c.args.source.now) (g.S.Source.told c.read_file.new.source) in
    let report = change (g.P.Sink.told c.args.report.now) (g.P.Sink.told c.refuse.new.report) in
    let h = c.in-Err.ensures in
    packs_unread words c.self.inside.ticket (length c.as_mut_slice.result.now - 1) c.in-Err.fault c.refuse.result source (g.K.Sink.told c.args.file.now) report
    (subst (NamesTicket words) (sym c.self.view_is) named) (omega (arith, ap length c.as_mut_slice.ensures.value, c.self.invariant.1))
    (record { wrong = h.wrong_length; failed = h.failed; read = h.read; before = h.failed_before; left = h.remainder })
    (c.refuse.ensures.status ∙ ap status_of c.refusal_of.ensures)
    (subst (λ r. WasGiven (refusal_text r) report) c.refusal_of.ensures c.refuse.ensures.given)

pub returns-clause-packs : goal.returns-clause-packs
returns-clause-packs g c = λ words named.
    let source = change (g.S.Source.told c.args.source.now) (g.S.Source.told c.read_file.new.source) in
    let file = change (g.K.Sink.told c.args.file.now) (g.K.Sink.told c.pack-status.new.file) in
    let report = change (g.P.Sink.told c.args.report.now) (g.P.Sink.told c.conclude.new.report) in
    let t = c.self.inside.ticket in
    let room = c.self.inside.room in
    let len = length c.as_mut_slice.result.now - 1 in
    let told = c.pack-status.result in
    let h = c.in_default.ensures in
    let size : length c.as_mut_slice.result.now ≡ t.length + 1 = ap length c.as_mut_slice.ensures.value ∙ c.self.invariant.1 in
    let same : len ≡ t.length = omega (arith, size) in
    let bytes : take c.length.result c.as_slice.result.now ≡ bytes_read source =
    ap (λ n. take n c.as_slice.result.now) c.length.ensures.length
    ∙ the_file t.length (length room) c.read_file.new.room room c.as_slice.result.now (bytes_read source) c.as_slice.ensures c.self.invariant.1 (omega (arith, c.read_file.auto.room, size)) (rw same at h.file) in
    let text : c.as_str.result.now ≡ frames_line t (take c.length.result c.as_slice.result.now) =
    c.as_str.ensures.value ∙ c.frames_line.ensures.text (take c.length.result c.as_slice.result.now) in
    packs_read words t len told c.conclude.result (take c.length.result c.as_slice.result.now) source file report
    (subst (NamesTicket words) (sym c.self.view_is) named) same
    (record { wrong = h.wrong_length; failed = h.failed; read = h.read; before = h.failed_before; left = h.remainder })
    ((h.whole was_read).0 refl) bytes c.pack-status.ensures.status c.pack-status.ensures.five c.pack-status.ensures.given
    (subst (λ l. WasGiven (concluded_text (code_of told) l) report) text c.conclude.ensures.given) c.conclude.ensures.same_or_five c.conclude.ensures.five

pub returns-in-Err-clause-accepted : goal.returns-in-Err-clause-accepted
returns-in-Err-clause-accepted g c = unread_alone c.in-Err.fault c.refuse.result (c.refuse.ensures.status ∙ ap status_of c.refusal_of.ensures)

pub returns-clause-accepted : goal.returns-clause-accepted
returns-clause-accepted g c = read_alone c.pack-status.result c.conclude.result c.pack-status.ensures.status c.conclude.ensures.same_or_five
