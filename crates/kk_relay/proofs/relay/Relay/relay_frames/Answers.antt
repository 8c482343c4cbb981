use Rattle.std.proofs.Common.{◌≡◌, ℕ, ◌++◌, length, take, get_or, ap, sym, subst, ◌∙◌, arith}
use Rattle.std.proofs.lemmas.List.{take_all, length-map}
use Rattle.std.proofs.lemmas.Result.{err_from_is_err_and}
use Rattle.kk_rows.specs.declared.rows.Row.{Row}
use Rattle.kk_outside.specs.Change.{change}
use Rattle.kk_frame.specs.FrameView.{pairs}
use Rattle.kk_frame.proofs.Batches.{in_batch, batch_more}
use Rattle.kk_frame.specs.Asking.{frames_of}
use Rattle.kk_relay.specs.Progress.{HasRelayed}
use Rattle.kk_relay.specs.Relaying.{relayed}
use Rattle.kk_outside.specs.Generator.{word_at}
use Rattle.kk_relay.proofs.Steps.{batch_step, BreaksOff-batch, few_more}
use Rattle.kk_relay.proofs.relay.Relay.relay_frames.Goals as goal

-- what a batch is read as past its end
abbrev no_frame : ℕ × Row
no_frame = (0, record { 0 = 0 })

pub relay_frame-requires-clause-frame : goal.relay_frame-requires-clause-frame
relay_frame-requires-clause-frame g c =
    let are = c.as_slice-frame-items.ensures.frames ∙ sym (ap frames_of c.in-Some.is) in
    in_batch c.args.ticket.now c.as_slice-frame-items.result.now (frames_of c.args.batch.now) c.loop-frame.frame-index no_frame are c.requires.frames c.loop-frame-test.true

pub relay_frame-requires-clause-progress : goal.relay_frame-requires-clause-progress
relay_frame-requires-clause-progress g c =
    let p = c.requires.progress in (
      p.0,
      p.1 ++ take c.loop-frame.frame-index (pairs c.as_slice-frame-items.result.now),
      p.2,
      c.loop-frame.invariant.progress p.0 p.1 p.2 p.3,
    )

pub returns-in_err-relay_frame-clause-breaks_off : goal.returns-in_err-relay_frame-clause-breaks_off
returns-in_err-relay_frame-clause-breaks_off g c = λ start before origin at.
    let told = g.O.Outlet.told in
    let items = c.as_slice-frame-items.result.now in
    let i = c.loop-frame.frame-index in
    let frame : ℕ × Row = get_or items i no_frame in
    let are = c.as_slice-frame-items.ensures.frames ∙ sym (ap frames_of c.in-Some.is) in
    let so_far = c.loop-frame.invariant.progress start before origin at in
    let off = c.in_err-relay_frame.ensures.breaks_off start (before ++ take i (pairs items)) origin so_far in
    let p = err_from_is_err_and c.from_residual.result c.from_residual.ensures.1 in
    rw p.1 (BreaksOff-batch c.args.ticket.now c.args.rate start before (pairs items) (frames_of c.args.batch.now) i (frame.0, frame.1.0) origin (told c.relay_frame.new.outlet) c.relay_frame.new.self (g.R.Rng.stream c.relay_frame.new.rng) (batch_more items i no_frame c.loop-frame-test.true) are off)

pub loop-frame-preserved : goal.loop-frame-preserved
loop-frame-preserved g c =
    let told = g.O.Outlet.told in
    let t = c.args.ticket.now in
    let rate = c.args.rate in
    let items = c.as_slice-frame-items.result.now in
    let i = c.loop-frame.frame-index in
    let frame : ℕ × Row = get_or items i no_frame in
    let more = batch_more items i no_frame c.loop-frame-test.true in
    record {
      progress = λ start before origin at.
          let so_far = c.loop-frame.invariant.progress start before origin at in
          subst (λ l. HasRelayed t rate start l (change origin (told c.relay_frame.new.outlet)) c.relay_frame.new.self (g.R.Rng.stream c.relay_frame.new.rng)) (batch_step before (pairs items) i (frame.0, frame.1.0) more)
          (c.in_ok-relay_frame.ensures.relayed start (before ++ take i (pairs items)) origin so_far);
      count = λ start before origin at.
          let so_far = c.loop-frame.invariant.progress start before origin at in
          let count = c.loop-frame.invariant.count start before origin at in
          let step = c.in_ok-relay_frame.ensures.count start (before ++ take i (pairs items)) origin so_far in
          let same = ap (λ l. length (relayed rate (word_at start) l)) (batch_step before (pairs items) i (frame.0, frame.1.0) more) in
          omega (arith, count, step, same);
      few = omega (arith, few_more c.loop-frame.sent c.from.result rate i c.loop-frame.invariant.few (omega (arith, c.from.ensures, c.in_ok-relay_frame.ensures.few)));
      same = c.in_ok-relay_frame.ensures.cause.kept ∙ c.loop-frame.invariant.same;
    }

pub returns-clause-relayed : goal.returns-clause-relayed
returns-clause-relayed g c = λ start before origin at.
    let items = c.as_slice-frame-items.result.now in
    let see : ℕ × Row → ℕ × ℕ = λ f. (f.0, f.1.0) in
    let are = c.as_slice-frame-items.ensures.frames ∙ sym (ap frames_of c.in-Some.is) in
    let whole : take c.loop-frame.frame-index (pairs items) ≡ frames_of c.args.batch.now = take_all c.loop-frame.frame-index (pairs items) (omega (arith, c.loop-frame-test.false, length-map items see)) ∙ are in
    subst (λ l. HasRelayed c.args.ticket.now c.args.rate start (before ++ l) (change origin (g.O.Outlet.told c.loop-frame.outlet)) c.loop-frame.self (g.R.Rng.stream c.loop-frame.rng)) whole (c.loop-frame.invariant.progress start before origin at)

pub returns-clause-count : goal.returns-clause-count
returns-clause-count g c = λ start before origin at.
    let items = c.as_slice-frame-items.result.now in
    let see : ℕ × Row → ℕ × ℕ = λ f. (f.0, f.1.0) in
    let are = c.as_slice-frame-items.ensures.frames ∙ sym (ap frames_of c.in-Some.is) in
    let whole : take c.loop-frame.frame-index (pairs items) ≡ frames_of c.args.batch.now = take_all c.loop-frame.frame-index (pairs items) (omega (arith, c.loop-frame-test.false, length-map items see)) ∙ are in
    ap (λ l. length (relayed c.args.rate (word_at start) (before ++ l))) (sym whole) ∙ c.loop-frame.invariant.count start before origin at
