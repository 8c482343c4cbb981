use Rattle.std.proofs.Common.{◌≡◌, ℕ, ◌+◌, ◌^◌, ◌<◌, ◌++◌, length, take, drop, get_or, sym, subst, ◌∙◌, arith, Err}
use Rattle.std.proofs.lemmas.List.{length-map, get_or-map, take_all}
use Rattle.std.proofs.lemmas.Result.{err_from_is_err_and}
use Rattle.kk_rows.specs.Rows.{numbers}
use Rattle.kk_rows.specs.declared.rows.Row.{Row}
use Rattle.kk_code.specs.Codeword.{width}
use Rattle.kk_frame.specs.Frame.{Vector, frame_text}
use Rattle.kk_sender.specs.SentFrames.{vectors, text_of}
use Rattle.kk_report.specs.Block.{Adds}
use Rattle.kk_report.proofs.Blocks.{Added, Added-ok, Added-after, Adds-after, Adds-err, Adds-ok, Adds-stopped}
use Rattle.kk_run_pack.proofs.Capturing.{rows_text-more, rows_text-cut}
use Rattle.kk_run_pack.proofs.capture.add_rows.Goals as goal

-- what rows are read as past their end
abbrev no_row : Row
no_row = record { 0 = 0 }

pub add_frame-requires : goal.add_frame-requires
add_frame-requires g c =
    let see = λ (r : Row). r.0 in
    let rows = c.args.rows.now in
    let i = c.loop-row.row-index in
    let inside : i < length (numbers rows) = omega (arith, c.loop-row-test.true, length-map rows see) in
    (c.requires.in_range, subst (λ (r : ℕ). r < 2 ^ width c.args.ticket.now.code) (get_or-map see rows i no_row 0 c.loop-row-test.true) (c.requires.below i 0 inside))

pub returns-in_err-add_frame-clause-adds : goal.returns-in_err-add_frame-clause-adds
returns-in_err-add_frame-clause-adds g c =
    let told = g.K.Sink.told in
    let t = c.args.ticket.now in
    let rows = c.args.rows.now in
    let n = c.args.generation in
    let i = c.loop-row.row-index in
    let start = told c.args.sink.now in
    let now = told c.loop-row.sink in
    let after = told c.add_frame.new.sink in
    let holds = c.add_frame.new.block in
    let front = text_of t (vectors n (take i (numbers rows))) in
    let row = frame_text t (Vector n (get_or rows i no_row).0) in
    let p = err_from_is_err_and c.from_residual.result c.from_residual.ensures.1 in
    let failed = Adds-after {T = Unit {0}} start now after c.args.block.now c.loop-row.block holds (Err p.0) front row c.loop-row.invariant.added (Adds-err _ _ _ _ row c.in_err-add_frame.ensures.adds) in
    let all = Adds-stopped {T = Unit {0}} {U = Unit {0}} {d = p.0} start after c.args.block.now holds (front ++ row) (text_of t (vectors n (drop (i + 1) (numbers rows)))) failed in
    rw p.1 (subst (Adds start after c.args.block.now holds (Err p.0)) (sym (rows_text-cut t n rows i no_row c.loop-row-test.true)) all)

pub loop-row-preserved : goal.loop-row-preserved
loop-row-preserved g c =
    let told = g.K.Sink.told in
    let t = c.args.ticket.now in
    let rows = c.args.rows.now in
    let n = c.args.generation in
    let i = c.loop-row.row-index in
    let row = frame_text t (Vector n (get_or rows i no_row).0) in
    record {
      added = subst (Added (told c.args.sink.now) (told c.add_frame.new.sink) c.args.block.now c.add_frame.new.block) (sym (rows_text-more t n rows i no_row c.loop-row-test.true))
          (Added-after (told c.args.sink.now) (told c.loop-row.sink) (told c.add_frame.new.sink) c.args.block.now c.loop-row.block c.add_frame.new.block _ row c.loop-row.invariant.added (Added-ok _ _ _ _ row c.in_ok-add_frame.ensures.adds));
      same = c.in_ok-add_frame.ensures.cause.kept ∙ c.loop-row.invariant.same;
    }

pub returns-clause-adds : goal.returns-clause-adds
returns-clause-adds g c =
    let told = g.K.Sink.told in
    let t = c.args.ticket.now in
    let rows = numbers c.args.rows.now in
    let see = λ (r : Row). r.0 in
    let whole : take c.loop-row.row-index rows ≡ rows = take_all c.loop-row.row-index rows (omega (arith, c.loop-row-test.false, length-map c.args.rows.now see)) in
    Adds-ok _ _ _ _ _ (subst (λ l. Added (told c.args.sink.now) (told c.loop-row.sink) c.args.block.now c.loop-row.block (text_of t (vectors c.args.generation l))) whole c.loop-row.invariant.added)
