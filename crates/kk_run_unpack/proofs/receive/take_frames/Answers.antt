use Rattle.std.proofs.Common.{refl, sym, ◌∙◌, arith}
use Rattle.std.proofs.lemmas.Result.{err_from_is_err_and}
use Rattle.kk_outside.specs.Change.{change}
use Rattle.kk_outside.proofs.Known.{filled}
use Rattle.kk_run_unpack.proofs.Receiving.{Received-start, Received-piece, AreReceived-stop, AreReceived-end, FailsBeforeStop-fill}
use Rattle.kk_run_unpack.proofs.receive.take_frames.Goals as goal

pub loop-piece-init : goal.loop-piece-init
loop-piece-init g c = record {
  received = Received-start c.args.ticket.now c.args.most (g.S.Source.told c.args.source.now) c.new-intake.result c.args.spaces.now c.new-intake.ensures.after c.new-intake.ensures.limits c.requires.spaces;
  same = refl;
}

pub returns-in_err-len-clause-failed : goal.returns-in_err-len-clause-failed
returns-in_err-len-clause-failed g c =
    let told = g.S.Source.told in
    let loop = c.loop-piece in
    let p = err_from_is_err_and c.from_residual.result c.from_residual.ensures.1 in
    rw p.1 (FailsBeforeStop-fill c.args.ticket.now c.args.most (told c.args.source.now) (told loop.source) (told c.fill.new.source) loop.intake loop.spaces c.in_err-len.field-0.0 c.fill.new.buf loop.invariant.received (sym c.runs.ensures.running ∙ c.loop-piece-test.true) c.in_err-len.ensures.fills c.fill.auto.buf)

pub returns-then-len-lt-FRAME_BYTES-clause-received : goal.returns-then-len-lt-FRAME_BYTES-clause-received
returns-then-len-lt-FRAME_BYTES-clause-received g c =
    let told = g.S.Source.told in
    let loop = c.loop-piece in
    AreReceived-end c.args.ticket.now c.args.most (told c.args.source.now) (told loop.source) (told c.fill.new.source) loop.intake c.counts_at_end.result loop.spaces c.in_ok-len.len c.fill.new.buf loop.invariant.received (sym c.runs.ensures.running ∙ c.loop-piece-test.true) c.in_ok-len.ensures.fills c.fill.auto.buf c.if-len-lt-FRAME_BYTES.true c.counts_at_end.ensures

pub loop-piece-preserved : goal.loop-piece-preserved
loop-piece-preserved g c =
    let told = g.S.Source.told in
    let loop = c.loop-piece in
    let now = told loop.source in
    let end = told c.fill.new.source in
    let whole = c.fill.auto.buf in
    record {
      received = Received-piece c.args.ticket.now c.args.most (told c.args.source.now) now end loop.intake c.take_datagram.new.intake loop.spaces c.take_datagram.new.spaces c.fill.new.buf loop.invariant.received
          (filled (change now end) c.in_ok-len.len c.fill.new.buf c.in_ok-len.ensures.fills (omega (arith, c.in_ok-len.ensures.fills.bounded, whole, c.if-len-lt-FRAME_BYTES.false)))
          whole c.take_datagram.ensures.limits c.take_datagram.ensures.taken;
      same = c.in_ok-len.ensures.cause.kept ∙ loop.invariant.same;
    }

pub returns-clause-received : goal.returns-clause-received
returns-clause-received g c =
    let told = g.S.Source.told in
    let loop = c.loop-piece in
    AreReceived-stop c.args.ticket.now c.args.most (change (told c.args.source.now) (told loop.source)) loop.intake c.counts.result loop.spaces loop.invariant.received (sym c.runs.ensures.running ∙ c.loop-piece-test.false)
    (λ events after. c.counts.ensures.ended c.args.ticket.now events after (sym c.runs.ensures.running ∙ c.loop-piece-test.false))
