use Rattle.std.proofs.Common.{ℕ, ◌<◌, ◌^◌, ◌∷◌, [], ap, sym, subst, ◌∙◌}
use Rattle.std.proofs.lemmas.Result.{err_from_is_err_and}
use Rattle.kk_rows.specs.Rows.{numbers}
use Rattle.kk_rows.proofs.Combinations.{combination-lt}
use Rattle.kk_outside.specs.Outlet.{append_datagrams}
use Rattle.kk_code.specs.Codeword.{width}
use Rattle.kk_frame.specs.Frame.{Vector, frame_text}
use Rattle.kk_relay.proofs.Sends.{AreSent-more, AreCut-next}
use Rattle.kk_relay.proofs.emission.send_combinations.Goals as goal

pub send_frame-requires : goal.send_frame-requires
send_frame-requires g c = (
  c.requires.generation,
  subst (λ (n : ℕ). n < 2 ^ width c.args.ticket.now.code) (sym c.combination-row.ensures) (combination-lt (width c.args.ticket.now.code) (numbers c.args.rows.now) c.next_u64.result c.requires.rows),
)

pub returns-in_err-send_frame-clause-cut : goal.returns-in_err-send_frame-clause-cut
returns-in_err-send_frame-clause-cut g c = λ start first at.
    let told = g.O.Outlet.told in
    let p = err_from_is_err_and c.from_residual.result c.from_residual.ensures.1 in
    rw p.1 (AreCut-next c.args.ticket.now start first c.args.generation (numbers c.args.rows.now) c.loop.counter (told c.args.outlet.now) (told c.loop.outlet) (told c.send_frame.new.outlet) (g.R.Rng.stream c.loop.rng) (g.R.Rng.stream c.next_u64.new.self) c.next_u64.result (c.loop.invariant.sent start first at) c.next_u64.ensures c.args.rate c.loop-test.true c.in_err-send_frame.ensures.sends.failed)

pub loop-preserved : goal.loop-preserved
loop-preserved g c =
    let told = g.O.Outlet.told in
    let t = c.args.ticket.now in
    let text = ap (λ (r : ℕ). append_datagrams (told c.loop.outlet).sends (frame_text t (Vector c.args.generation r) ∷ [])) c.combination-row.ensures in
    record {
      sent = λ start first at. AreSent-more t start first c.args.generation (numbers c.args.rows.now) c.loop.counter (told c.args.outlet.now) (told c.loop.outlet) (told c.send_frame.new.outlet) (g.R.Rng.stream c.loop.rng) (g.R.Rng.stream c.next_u64.new.self) c.next_u64.result (c.loop.invariant.sent start first at) c.next_u64.ensures (c.in_ok-send_frame.ensures.sends.sent ∙ text);
      same = c.in_ok-send_frame.ensures.cause.kept ∙ c.loop.invariant.same;
    }
