use Rattle.std.proofs.Common.{◌≡◌, ◌+◌, ◌-◌, length, take, Err, ap, sym, subst, ◌∙◌, arith}
use Rattle.std.proofs.lemmas.Result.{err_from_is_err_and}
use Rattle.kk_code.specs.Ticket.{TicketFields, generations}
use Rattle.kk_outside.specs.Change.{change}
use Rattle.kk_outside.specs.Source.{bytes_read}
use Rattle.kk_outside.specs.Outlet.{IsCutShort, append_datagrams}
use Rattle.kk_outside.specs.Generator.{word_at}
use Rattle.kk_sender.specs.SentFrames.{data_frames, sent_datagrams, sent_rows}
use Rattle.kk_sender.proofs.Lengths.{the_file, wrong_sent}
use Rattle.kk_sender.proofs.Generations.{length-sent_frames, length-sent_datagrams}
use Rattle.kk_sender.proofs.sender.Sender.send_all.Goals as goal

pub returns-in_err-read_file-clause-wrong_length : goal.returns-in_err-read_file-clause-wrong_length
returns-in_err-read_file-clause-wrong_length g c = λ got more other.
    let t = c.self.inside.ticket in
    let len : length c.as_mut_slice.result.now - 1 ≡ c.args.self.now.length = omega (arith, ap length c.as_mut_slice.ensures.value, c.self.invariant.1, ap (λ (u : TicketFields). u.length) c.self.view_is) in
    let p = err_from_is_err_and c.from_residual.result c.from_residual.ensures.1 in
    wrong_sent c.in_err-read_file.field-0.0 c.from_residual.result _ got more (p.1 ∙ ap Err p.2) other (rw len at (c.in_err-read_file.ensures.wrong_length got more))

pub returns-in_default-clause-prefix : goal.returns-in_default-clause-prefix
returns-in_default-clause-prefix g c = λ _.
    let told = g.O.Outlet.told in
    let t = c.self.inside.ticket in
    let room = c.self.inside.room in
    let word = word_at (g.R.Rng.stream c.args.rng.now) in
    let outlet = change (told c.args.outlet.now) (told c.send_file.new.outlet) in
    let read = bytes_read (change (g.S.Source.told c.args.source.now) (g.S.Source.told c.read_file.new.source)) in
    let size : length c.as_mut_slice.result.now ≡ t.length + 1 = ap length c.as_mut_slice.ensures.value ∙ c.self.invariant.1 in
    let len : length c.as_mut_slice.result.now - 1 ≡ t.length = omega (arith, size) in
    let file : take t.length c.as_slice.result.now ≡ read =
    the_file t.length (length room) c.read_file.new.room room c.as_slice.result.now read c.as_slice.ensures c.self.invariant.1 (omega (arith, c.read_file.auto.room, size)) (rw len at c.in_ok-read_file.ensures.file) in
    subst (λ (u : TicketFields). IsCutShort outlet (sent_datagrams u read c.args.extra c.args.frames_per_datagram word)) c.self.view_is
    (subst (λ f. IsCutShort outlet (sent_datagrams t f c.args.extra c.args.frames_per_datagram word)) (ap (λ n. take n c.as_slice.result.now) c.length.ensures.length ∙ file) c.in_default.ensures.prefix)

pub returns-clause-sent : goal.returns-clause-sent
returns-clause-sent g c =
    let told = g.O.Outlet.told in
    let t = c.self.inside.ticket in
    let room = c.self.inside.room in
    let word = word_at (g.R.Rng.stream c.args.rng.now) in
    let old = (told c.args.outlet.now).sends in
    let read = bytes_read (change (g.S.Source.told c.args.source.now) (g.S.Source.told c.read_file.new.source)) in
    let size : length c.as_mut_slice.result.now ≡ t.length + 1 = ap length c.as_mut_slice.ensures.value ∙ c.self.invariant.1 in
    let len : length c.as_mut_slice.result.now - 1 ≡ t.length = omega (arith, size) in
    let file : take t.length c.as_slice.result.now ≡ read =
    the_file t.length (length room) c.read_file.new.room room c.as_slice.result.now read c.as_slice.ensures c.self.invariant.1 (omega (arith, c.read_file.auto.room, size)) (rw len at c.in_ok-read_file.ensures.file) in
    c.in-Ok.ensures.sent
    ∙ ap (λ f. append_datagrams old (sent_datagrams t f c.args.extra c.args.frames_per_datagram word)) (ap (λ n. take n c.as_slice.result.now) c.length.ensures.length ∙ file)
    ∙ ap (λ (u : TicketFields). append_datagrams old (sent_datagrams u read c.args.extra c.args.frames_per_datagram word)) c.self.view_is

pub returns-clause-frames : goal.returns-clause-frames
returns-clause-frames g c =
    let word = word_at (g.R.Rng.stream c.args.rng.now) in
    let read = bytes_read (change (g.S.Source.told c.args.source.now) (g.S.Source.told c.read_file.new.source)) in
    subst (λ (u : TicketFields). c.of.result.frames ≡ length (data_frames (sent_rows u read c.args.extra word) (generations u)) + 1) c.self.view_is
    (c.of.ensures.frames ∙ ap (λ n. n + 1) (sym (length-sent_frames c.self.inside.ticket read c.args.extra word)))

pub returns-clause-datagrams : goal.returns-clause-datagrams
returns-clause-datagrams g c =
    let word = word_at (g.R.Rng.stream c.args.rng.now) in
    let read = bytes_read (change (g.S.Source.told c.args.source.now) (g.S.Source.told c.read_file.new.source)) in
    subst (λ (u : TicketFields). c.of.result.datagrams ≡ length (sent_datagrams u read c.args.extra c.args.frames_per_datagram word)) c.self.view_is
    (c.of.ensures.datagrams ∙ sym (length-sent_datagrams c.self.inside.ticket read c.args.extra c.args.frames_per_datagram word))
