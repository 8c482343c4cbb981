use Rattle.std.proofs.Common.{◌∙◌, ◌<◌, ℕ, List, Option, length, get_or, ap, arith}
use Rattle.std.proofs.lemmas.Result.{err_from_is_err_and}
use Rattle.std.proofs.lemmas.List.{length-map, take_all}
use Rattle.kk_rows.proofs.Dimensions.{dimension-le_width}
use Rattle.kk_table.specs.Logs.{log_at}
use Rattle.kk_run_recv.specs.Report.{logged_outcomes}
use Rattle.kk_report.proofs.Blocks.{Added-ok, Adds-ok}
use Rattle.kk_outcome.proofs.Texts.{Added-line, Adds-line_failed}
use Rattle.kk_run_recv.proofs.Logged.{logged_at, line_logged, length-logged}
use Rattle.kk_run_recv.proofs.report.add_logs.Goals as goal

pub overflow_cast-rank : goal.overflow_cast-rank
overflow_cast-rank g c =
    let l = log_at c.args.received.now.logs.logs c.loop-generation.generation in
    omega (
      arith,
      length-map c.log.result.now (λ r. r.0),
      ap (λ (x : List ℕ). length x) c.log.ensures.rows,
      c.log.ensures.log.independent,
      dimension-le_width c.args.received.now.logs.shape.width l.rows c.log.ensures.log.below,
      c.requires,
    )

pub returns-in_err-push-clause-adds : goal.returns-in_err-push-clause-adds
returns-in_err-push-clause-adds g c =
    let told = g.P.Sink.told in
    let loop = c.loop-generation in
    let r = c.args.received.now in
    let n = r.logs.shape.generations in
    let all = logged_outcomes n r.logs.logs r.answers in
    let near : loop.generation < n = omega (arith, c.loop-generation-test.true, c.generations-generation-end.ensures.count) in
    let text = c.as_bytes.ensures.value ∙ c.as_str.ensures.value ∙ c.generation_line-line.ensures
    ∙ line_logged n r.logs.logs r.answers loop.generation c.log.result.now c.index-answers-generation.result c.is_some-decoded.result near c.log.ensures.rows
    (c.index-answers-generation.is ∙ ap (λ (l : List (Option (List ℕ))). get_or l loop.generation c.index-answers-generation.result) c.answers.ensures) (omega (arith, near, c.generations-generation-end.ensures.count, c.generations-generation-end.ensures.one_answer_each)) c.is_some-decoded.ensures in
    let at = logged_at n r.logs.logs r.answers loop.generation near in
    let p = err_from_is_err_and c.from_residual.result c.from_residual.ensures.1 in
    rw p.1 (Adds-line_failed (told c.args.report.now) (told loop.report) (told c.push.new.sink) c.args.block.now loop.block c.push.new.self all loop.generation _ at.0 at.1 loop.invariant.added (rw text at c.in_err-push.ensures.adds))

pub loop-generation-preserved : goal.loop-generation-preserved
loop-generation-preserved g c =
    let told = g.P.Sink.told in
    let loop = c.loop-generation in
    let r = c.args.received.now in
    let n = r.logs.shape.generations in
    let all = logged_outcomes n r.logs.logs r.answers in
    let near : loop.generation < n = omega (arith, c.loop-generation-test.true, c.generations-generation-end.ensures.count) in
    let text = c.as_bytes.ensures.value ∙ c.as_str.ensures.value ∙ c.generation_line-line.ensures
    ∙ line_logged n r.logs.logs r.answers loop.generation c.log.result.now c.index-answers-generation.result c.is_some-decoded.result near c.log.ensures.rows
    (c.index-answers-generation.is ∙ ap (λ (l : List (Option (List ℕ))). get_or l loop.generation c.index-answers-generation.result) c.answers.ensures) (omega (arith, near, c.generations-generation-end.ensures.count, c.generations-generation-end.ensures.one_answer_each)) c.is_some-decoded.ensures in
    let at = logged_at n r.logs.logs r.answers loop.generation near in
    record {
      added = Added-line (told c.args.report.now) (told loop.report) (told c.push.new.sink) c.args.block.now loop.block c.push.new.self all loop.generation _ at.0 at.1 loop.invariant.added (Added-ok _ _ _ _ _ (rw text at c.in_ok-push.ensures.adds));
      same = c.in_ok-push.ensures.cause.kept ∙ loop.invariant.same;
    }

pub returns-clause-adds : goal.returns-clause-adds
returns-clause-adds g c =
    let r = c.args.received.now in
    let n = r.logs.shape.generations in
    let all = logged_outcomes n r.logs.logs r.answers in
    let whole = take_all c.loop-generation.generation all (omega (arith, c.loop-generation-test.false, c.generations-generation-end.ensures.count, length-logged n r.logs.logs r.answers)) in
    Adds-ok _ _ _ _ _ (rw whole at c.loop-generation.invariant.added)
