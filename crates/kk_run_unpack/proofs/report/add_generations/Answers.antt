use Rattle.std.proofs.Common.{◌≡◌, List, length, refl, sym, ◌∙◌, le_of_eq, Iter}
use Rattle.std.specs.Option.{is_some}
use Rattle.std.specs.List.{zip, enumerate_from}
use Rattle.std.proofs.iter.Yields.{fronts}
use Rattle.std.specs.declared.iter.Enumerate.{Enumerate}
use Rattle.std.specs.declared.iter.Zip.{Zip}
use Rattle.std.specs.Slice.Iter.{iter_rest}
use Rattle.std.specs.Iterator.Adapters.{enumerate_source, enumerate_count, enumerate_steps, zip_first, zip_second}
use Rattle.std.proofs.lemmas.Iterator.{YieldsList, zips, YieldsList-from_slice, YieldsList-from_zip}
use Rattle.std.proofs.lemmas.Iterator.Consumers.{YieldsList-from_enumerate, YieldsList-turn, YieldsList-end}
use Rattle.std.proofs.lemmas.Result.{err_from_is_err_and}
use Rattle.std.proofs.lemmas.List.{length_push, length-map, take_all}
use Rattle.std.proofs.lemmas.List.FromFn.{length-enumerate_from}
use Rattle.kk_rows.specs.Span.{dimension}
use Rattle.kk_run_unpack.specs.Report.{outcome, outcomes}
use Rattle.kk_outcome.specs.Outcome.{generation_line}
use Rattle.kk_report.proofs.Blocks.{Added-nothing, Added-ok, Adds-ok}
use Rattle.kk_outcome.proofs.Texts.{Added-line, Adds-line_failed, enumerate_turn}
use Rattle.kk_run_unpack.proofs.report.add_generations.Goals as goal

-- a counted loop over the pairs of two slices
YieldsList-from_pairs : {A B : Type 0} {s : Enumerate (Zip (Iter A) (Iter B))} (xs : List A) (ys : List B) → iter_rest (zip_first (enumerate_source s)) ≡ xs → iter_rest (zip_second (enumerate_source s)) ≡ ys → enumerate_count s ≡ 0 → YieldsList (enumerate_steps (zips fronts fronts)) (λ p. (p.0, (p.1.0.now, p.1.1.now))) s (enumerate_from 0 (zip xs ys))
YieldsList-from_pairs xs ys first second counted =
    YieldsList-from_enumerate (YieldsList-from_zip (YieldsList-from_slice xs first) (YieldsList-from_slice ys second)) counted

pub loop-number-init : goal.loop-number-init
loop-number-init g c = record { added = Added-nothing (g.P.Sink.told c.args.report.now) c.args.block.now; same = refl }

pub loop-number-preserved : goal.loop-number-preserved
loop-number-preserved g c =
    let told = g.P.Sink.told in
    let loop = c.loop-number in
    let spaces = c.args.spaces.now in
    let answers = c.args.answers.now in
    let at = YieldsList-turn {s = c.into_iter-number-iterator.result} (YieldsList-from_pairs spaces answers (cc) (cc) (cc)) loop.yielded loop.number-iterator loop.yielded_by _ c.next.new.self (c.in-Some.number, (c.in-Some.space, c.in-Some.answer)) c.in-Some.is c.next.ensures.steps in
    let turn = enumerate_turn outcome (zip spaces answers) (length loop.yielded) (c.in-Some.number, (c.in-Some.space.now, c.in-Some.answer.now)) at.0 at.1 in
    let text : c.as_bytes.result.now ≡ generation_line (length loop.yielded) (dimension c.in-Some.space.now.rows) (is_some c.in-Some.answer.now) = cc turn.0 in
    let one = outcome (c.in-Some.space.now, c.in-Some.answer.now) in
    let line = Added-ok _ _ _ _ _ (rw text at c.in_ok-push.ensures.adds) in
    record {
      added = rw (length_push loop.yielded (c.in-Some.number, (c.in-Some.space, c.in-Some.answer)))
          (Added-line (told c.args.report.now) (told loop.report) (told c.push.new.sink) c.args.block.now loop.block c.push.new.self (outcomes spaces answers) (length loop.yielded) one turn.1 turn.2 loop.invariant.added line);
      same = c.in_ok-push.ensures.cause.kept ∙ loop.invariant.same;
    }

pub returns-in_err-push : goal.returns-in_err-push
returns-in_err-push g c =
    let told = g.P.Sink.told in
    let loop = c.loop-number in
    let spaces = c.args.spaces.now in
    let answers = c.args.answers.now in
    let at = YieldsList-turn {s = c.into_iter-number-iterator.result} (YieldsList-from_pairs spaces answers (cc) (cc) (cc)) loop.yielded loop.number-iterator loop.yielded_by _ c.next.new.self (c.in-Some.number, (c.in-Some.space, c.in-Some.answer)) c.in-Some.is c.next.ensures.steps in
    let turn = enumerate_turn outcome (zip spaces answers) (length loop.yielded) (c.in-Some.number, (c.in-Some.space.now, c.in-Some.answer.now)) at.0 at.1 in
    let text : c.as_bytes.result.now ≡ generation_line (length loop.yielded) (dimension c.in-Some.space.now.rows) (is_some c.in-Some.answer.now) = cc turn.0 in
    let one = outcome (c.in-Some.space.now, c.in-Some.answer.now) in
    let line = rw text at c.in_err-push.ensures.adds in
    let p = err_from_is_err_and c.from_residual.result c.from_residual.ensures.1 in
    rw (p.1, p.2)
    (record {
      adds = Adds-line_failed (told c.args.report.now) (told loop.report) (told c.push.new.sink) c.args.block.now loop.block c.push.new.self (outcomes spaces answers) (length loop.yielded) one turn.1 turn.2 loop.invariant.added line;
      cause = rw loop.invariant.same at c.in_err-push.ensures.cause;
    })

pub returns : goal.returns
returns g c =
    let loop = c.loop-number in
    let spaces = c.args.spaces.now in
    let answers = c.args.answers.now in
    let ended = YieldsList-end {s = c.into_iter-number-iterator.result} (YieldsList-from_pairs spaces answers (cc) (cc) (cc)) loop.yielded loop.number-iterator loop.yielded_by _ c.next.new.self c.in-None.is c.next.ensures.steps in
    let all : length loop.yielded ≡ length (outcomes spaces answers) =
    ended.1 ∙ length-enumerate_from 0 (zip spaces answers) ∙ sym (length-map (zip spaces answers) outcome) in
    let whole = take_all (length loop.yielded) (outcomes spaces answers) (le_of_eq (sym all)) in
    record {
      adds = Adds-ok _ _ _ _ _ (rw whole at loop.invariant.added);
      cause = record { later = le_of_eq (sym loop.invariant.same); failed = tt; kept = loop.invariant.same };
    }
