use Rattle.std.proofs.Common.{◌≡◌, ℕ, ◌+◌, ◌*◌, [], ap, sym, subst, refl, ◌∙◌, arith}
use Rattle.std.proofs.Math.Nat.{zero-mul}
use Rattle.std.proofs.lemmas.Result.{err_from_is_err_and}
use Rattle.kk_outside.specs.Change.{change}
use Rattle.kk_outside.specs.Generator.{after_words, word_at}
use Rattle.kk_sender.specs.SentFrames.{sent_rows, data_frames}
use Rattle.kk_sender.specs.Sending.{DatagramState, IsPending}
use Rattle.kk_sender.proofs.Datagrams.{OnOk-then, OnErr-then, IsPending-start}
use Rattle.kk_sender.proofs.Generations.{rows_sent, sent_rows-below, frames_more, prefix_at, prefix_at_end, rows_out, all_out, end_unsent}
use Rattle.kk_sender.proofs.send.send_file.Goals as goal

pub loop-generation-init : goal.loop-generation-init
loop-generation-init g c =
    let now = g.O.Outlet.told c.args.outlet.now in
    let stream = g.R.Rng.stream c.args.rng.now in
    record {
      pending = subst (λ d. IsPending c.args.ticket.now (change now now) d []) (sym c.new-datagram.ensures) (IsPending-start c.args.ticket.now now c.args.frames_per_datagram (omega (arith, c.requires.some)));
      stream = sym (ap (λ (n : ℕ). after_words n stream) (zero-mul c.args.extra));
      same = refl;
      frames_per_datagram = ap (λ (d : DatagramState). d.frames_per_datagram) c.new-datagram.ensures;
    }

pub push_rows-requires-clause-below : goal.push_rows-requires-clause-below
push_rows-requires-clause-below g c =
    let word = word_at (g.R.Rng.stream c.args.rng.now) in
    let n = c.loop-generation.generation in
    let rows = rows_sent c.args.ticket.now c.args.file.now c.args.extra word n c.args.encoder.now c.cut-message.result c.encode-codeword.result _ c.requires.encoder c.cut-message.ensures.exact c.encode-codeword.ensures.rows
    (c.as_slice.ensures.rows ∙ c.sent_rows-rows.ensures.rows (g.R.Rng.stream c.args.rng.now) (n * c.args.extra) c.loop-generation.invariant.stream) in
    rw rows (sent_rows-below c.args.ticket.now c.args.file.now c.args.extra word n c.generations-generation-end.ensures.ticket.code)

pub returns-in_err-push_rows-clause-prefix : goal.returns-in_err-push_rows-clause-prefix
returns-in_err-push_rows-clause-prefix g c =
    let told = g.O.Outlet.told in
    let word = word_at (g.R.Rng.stream c.args.rng.now) in
    let n = c.loop-generation.generation in
    let loop = c.loop-generation in
    let t = c.args.ticket.now in
    let rows = rows_sent t c.args.file.now c.args.extra word n c.args.encoder.now c.cut-message.result c.encode-codeword.result _ c.requires.encoder c.cut-message.ensures.exact c.encode-codeword.ensures.rows
    (c.as_slice.ensures.rows ∙ c.sent_rows-rows.ensures.rows (g.R.Rng.stream c.args.rng.now) (n * c.args.extra) loop.invariant.stream) in
    let p = err_from_is_err_and c.from_residual.result c.from_residual.ensures.1 in
    rw p.1 (prefix_at t c.args.file.now c.args.extra c.args.frames_per_datagram loop.datagram.frames_per_datagram word n _ (change (told c.args.outlet.now) (told c.push_rows.new.outlet)) (omega (arith, c.requires.some)) loop.invariant.frames_per_datagram
    (omega (arith, c.loop-generation-test.true, c.generations-generation-end.ensures.count)) rows
    (c.in_err-push_rows.ensures.cut (told c.args.outlet.now) (data_frames (sent_rows t c.args.file.now c.args.extra word) n) loop.invariant.pending))

pub loop-generation-preserved : goal.loop-generation-preserved
loop-generation-preserved g c =
    let told = g.O.Outlet.told in
    let word = word_at (g.R.Rng.stream c.args.rng.now) in
    let n = c.loop-generation.generation in
    let loop = c.loop-generation in
    let t = c.args.ticket.now in
    let rows = rows_sent t c.args.file.now c.args.extra word n c.args.encoder.now c.cut-message.result c.encode-codeword.result _ c.requires.encoder c.cut-message.ensures.exact c.encode-codeword.ensures.rows
    (c.as_slice.ensures.rows ∙ c.sent_rows-rows.ensures.rows (g.R.Rng.stream c.args.rng.now) (n * c.args.extra) loop.invariant.stream) in
    let more : n * c.args.extra + c.args.extra ≡ (n + 1) * c.args.extra = grind arith in
    record {
      pending = subst (IsPending t (change (told c.args.outlet.now) (told c.push_rows.new.outlet)) c.push_rows.new.datagram) (frames_more t c.args.file.now c.args.extra word n _ rows)
          (c.in_ok-push_rows.ensures.pending (told c.args.outlet.now) (data_frames (sent_rows t c.args.file.now c.args.extra word) n) loop.invariant.pending);
      stream = c.sent_rows-rows.ensures.stream (g.R.Rng.stream c.args.rng.now) (n * c.args.extra) loop.invariant.stream ∙ ap (λ (k : ℕ). after_words k (g.R.Rng.stream c.args.rng.now)) more;
      same = c.in_ok-push_rows.ensures.cause.kept ∙ loop.invariant.same;
      frames_per_datagram = c.in_ok-push_rows.ensures.frames_per_datagram ∙ loop.invariant.frames_per_datagram;
    }

pub returns-in_err-finish-clause-prefix : goal.returns-in_err-finish-clause-prefix
returns-in_err-finish-clause-prefix g c =
    let told = g.O.Outlet.told in
    let word = word_at (g.R.Rng.stream c.args.rng.now) in
    let loop = c.loop-generation in
    let t = c.args.ticket.now in
    let p = err_from_is_err_and c.from_residual-in_err-finish.result c.from_residual-in_err-finish.ensures.1 in
    rw p.1 (prefix_at_end t c.args.file.now c.args.extra c.args.frames_per_datagram loop.datagram.frames_per_datagram word loop.generation (change (told c.args.outlet.now) (told c.finish.new.outlet)) (omega (arith, c.requires.some)) loop.invariant.frames_per_datagram
    (omega (arith, c.loop-generation-test.false, loop.auto.generation-end, c.generations-generation-end.ensures.count))
    (c.in_err-finish.ensures.cut (told c.args.outlet.now) _ t loop.invariant.pending))

pub returns-clause-sent : goal.returns-clause-sent
returns-clause-sent g c =
    let told = g.O.Outlet.told in
    let word = word_at (g.R.Rng.stream c.args.rng.now) in
    let loop = c.loop-generation in
    let t = c.args.ticket.now in
    let rows = rows_out t c.args.file.now c.args.extra c.args.frames_per_datagram loop.datagram.frames_per_datagram word loop.generation (change (told c.args.outlet.now) (told c.finish.new.outlet)) loop.invariant.frames_per_datagram
    (omega (arith, c.loop-generation-test.false, loop.auto.generation-end, c.generations-generation-end.ensures.count))
    (c.in_ok-finish.ensures.all (told c.args.outlet.now) _ t loop.invariant.pending) in
    OnOk-then _ _ c.send_frame.result c.send_frame.ensures.sends.sent (λ went.
    all_out t c.args.file.now c.args.extra c.args.frames_per_datagram word (told c.args.outlet.now) (told c.finish.new.outlet) (told c.send_frame.new.outlet) rows went)

pub returns-clause-prefix : goal.returns-clause-prefix
returns-clause-prefix g c =
    let told = g.O.Outlet.told in
    let word = word_at (g.R.Rng.stream c.args.rng.now) in
    let loop = c.loop-generation in
    let t = c.args.ticket.now in
    let rows = rows_out t c.args.file.now c.args.extra c.args.frames_per_datagram loop.datagram.frames_per_datagram word loop.generation (change (told c.args.outlet.now) (told c.finish.new.outlet)) loop.invariant.frames_per_datagram
    (omega (arith, c.loop-generation-test.false, loop.auto.generation-end, c.generations-generation-end.ensures.count))
    (c.in_ok-finish.ensures.all (told c.args.outlet.now) _ t loop.invariant.pending) in
    OnErr-then _ _ c.send_frame.result c.send_frame.ensures.sends.failed (λ failed.
    end_unsent t c.args.file.now c.args.extra c.args.frames_per_datagram word (told c.args.outlet.now) (told c.finish.new.outlet) (told c.send_frame.new.outlet) rows failed)
