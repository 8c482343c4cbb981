use Rattle.std.proofs.Common.{ℕ, ◌+◌, ◌^◌, ◌<◌, List, ◌∷◌, ◌++◌, [], length, take, drop, get_or, ap, sym, subst, ◌∙◌, arith, append_assoc}
use Rattle.std.proofs.lemmas.List.{length-map, get_or-map}
use Rattle.std.proofs.lemmas.Result.{err_from_is_err_and}
use Rattle.kk_rows.specs.Rows.{numbers}
use Rattle.kk_rows.specs.declared.rows.Row.{Row}
use Rattle.kk_outside.specs.Change.{change}
use Rattle.kk_code.specs.Codeword.{width}
use Rattle.kk_frame.specs.Frame.{FrameValue, Vector}
use Rattle.kk_sender.specs.SentFrames.{vectors}
use Rattle.kk_sender.specs.Sending.{IsPending, IsCut}
use Rattle.kk_sender.proofs.Datagrams.{IsCut-more}
use Rattle.kk_sender.proofs.Frames.{vectors-more, vectors-cut}
use Rattle.kk_sender.proofs.send.push_rows.Goals as goal

-- what rows are read as past their end
abbrev no_row : Row
no_row = record { 0 = 0 }

pub push-requires : goal.push-requires
push-requires g c =
    let see = λ (r : Row). r.0 in
    let rows = c.args.rows.now in
    let i = c.loop-row.row-index in
    let inside : i < length (numbers rows) = omega (arith, c.loop-row-test.true, length-map rows see) in
    (c.requires.in_range, subst (λ (r : ℕ). r < 2 ^ width c.args.ticket.now.code) (get_or-map see rows i no_row 0 c.loop-row-test.true) (c.requires.below i 0 inside))

pub returns-in_err-push-clause-cut : goal.returns-in_err-push-clause-cut
returns-in_err-push-clause-cut g c =
    let told = g.O.Outlet.told in
    let t = c.args.ticket.now in
    let rows = c.args.rows.now in
    let n = c.args.generation in
    let i = c.loop-row.row-index in
    let loop = c.loop-row in
    let p = err_from_is_err_and c.from_residual.result c.from_residual.ensures.1 in
    rw p.1 (λ start frames pending.
    let cut = c.in_err-push.ensures.cut start (frames ++ vectors n (take i (numbers rows))) (loop.invariant.pending start frames pending) in
    let all = IsCut-more t loop.datagram.frames_per_datagram (change start (told c.push.new.outlet)) _ (vectors n (drop (i + 1) (numbers rows))) cut in
    subst (λ pack. IsCut t pack (change start (told c.push.new.outlet)) (frames ++ vectors n (numbers rows))) loop.invariant.frames_per_datagram
    (subst (IsCut t loop.datagram.frames_per_datagram (change start (told c.push.new.outlet))) (sym (vectors-cut frames n rows i no_row c.loop-row-test.true)) all))

pub loop-row-preserved : goal.loop-row-preserved
loop-row-preserved g c =
    let told = g.O.Outlet.told in
    let t = c.args.ticket.now in
    let rows = c.args.rows.now in
    let n = c.args.generation in
    let i = c.loop-row.row-index in
    let loop = c.loop-row in
    record {
      pending = λ start frames pending.
          let front = vectors n (take i (numbers rows)) in
          let row = Vector n (get_or rows i no_row).0 ∷ [] in
          subst (IsPending t (change start (told c.push.new.outlet)) c.push.new.self)
          (append_assoc frames front row ∙ ap (λ (l : List FrameValue). frames ++ l) (sym (vectors-more n rows i no_row c.loop-row-test.true)))
          (c.in_ok-push.ensures.pending start (frames ++ front) (loop.invariant.pending start frames pending));
      same = c.in_ok-push.ensures.cause.kept ∙ loop.invariant.same;
      frames_per_datagram = c.in_ok-push.ensures.frames_per_datagram ∙ loop.invariant.frames_per_datagram;
    }
